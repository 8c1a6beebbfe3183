-- What the estimate of an event rests on: its three differences, and the floor of log2 by its powers.
use Rattle.std.proofs.Common.{◌≡◌, ℕ, zero, suc, ◌/◌, ◌^◌, ◌<◌, ◌≤◌, min, ◌-ℤ◌, nat_abs, refl, ap, arith, pow_pos, le-ltb, lt-ltb, ne_eqb}
use Rattle.ledger.specs.Choice.{pick}
use Rattle.ledger.specs.Clocks.{next_timer, log2, least_amount, estimate}
use Rattle.ledger.specs.declared.Timer.{Timer}

-- the least amount of an event, by the timer after it
pub least_of_next : (now : ℕ) (t u : Timer) → u ≡ next_timer now t → min (nat_abs u.d1) (min (nat_abs u.d2) (nat_abs (u.d2 -ℤ t.d2))) ≡ least_amount now t
least_of_next now t u e = rw e

-- the floor of log2, from its powers
pub log2_is : (f m j : ℕ) → j ≤ f → 2 ^ j ≤ m → m < 2 ^ suc j → log2 f m ≡ j
unfolding log2 pick
log2_is zero m zero h l u = refl
log2_is zero m (suc j) h l u = omega arith
log2_is (suc f) m zero h l u = simp (lt-ltb m 2 (omega arith))
log2_is (suc f) m (suc j) h l u =
    simp (le-ltb m 2 (omega (arith, pow_pos j))) (ap suc (log2_is f (m / 2) j (omega arith) (omega arith) (omega arith)))

pub estimate_is : (m : ℕ) → 0 < m → estimate m ≡ min 11 (log2 64 m)
unfolding estimate pick
estimate_is m h = simp (ne_eqb m 0 (λ e. omega arith))
