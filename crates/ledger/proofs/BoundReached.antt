-- The ledger's bound is reached, and as often as one likes: on a keeper whose counts are 0, a seed with 128 bits adds 768 units, of which a
-- blocking read of 12 bytes brings 12 bytes over; these add 576 units, and 9 bytes are delivered: 128 × 9 = 9 × 128. Then both counts are 0
-- again. So no smaller part of what was awarded is enough.
use mathlib.Core.Logic.{◌↔◌}
use mathlib.Core.Path.{◌≡◌, refl, sym}
use mathlib.Core.Bool.{and-false}
use mathlib.Core.List.{List, [], ◌∷◌, sum}
use Prim.Native.Nat.{ℕ, zero, suc, ◌+◌, ◌*◌, ◌≤◌}
use native.Mathlib.Omega.{arith}
use native.Mathlib.Nat.{mul-le-mul_left, mul-le-mul_right, le_of_mul-le-mul_left}
use Rattle.ledger.specs.Choice.{pick}
use Rattle.ledger.specs.Credits.{further, credited, taken}
use Rattle.ledger.specs.Range.{View}
use Rattle.ledger.specs.PublicCalls.{PublicCall, seed, blocking_read}
use Rattle.ledger.specs.Plans.{first_seeding, feed, plan_seed, plan_blocking_read, plan_call}
use Rattle.ledger.specs.Machine.{fresh_view, planned, step_view}
use Rattle.ledger.specs.Awards.{award, awards_from, awarded}
use Rattle.ledger.specs.LedgerOfBits.{summed, delivered, answers_from}
use Rattle.ledger.proofs.InRange.{Fine, step-fine, fresh-fine}
use Rattle.ledger.proofs.CallsAlone.{plan_in_range}
use Rattle.ledger.proofs.LedgerOfBits.{books}

-- a seed of 16 bytes with 128 bits, and a blocking read of 12
abbrev paying : PublicCall
paying = seed 0 16 128

abbrev drawing : PublicCall
drawing = blocking_read 12

-- both, n times
unfoldable pub rounds : ℕ → List PublicCall
rounds zero = []
rounds (suc n) = paying ∷ drawing ∷ rounds n

-- both counts, and a record in range
record Counts (input blocking : ℕ) (v : View) : Type 0 where
  fine : Fine v
  input_is : v.ledger.input.count ≡ input
  blocking_is : v.ledger.blocking.count ≡ blocking

paid : (v : View) → Counts 0 0 v → Counts 768 0 (step_view v paying).view
unfolding step_view planned plan_call plan_seed feed first_seeding credited further taken pick
paid v c =
    record {
      fine = step-fine v paying c.fine;
      input_is = rw (plan_in_range v paying c.fine, c.input_is, and-false) refl;
      blocking_is = rw (plan_in_range v paying c.fine) c.blocking_is;
    }

drawn : (v : View) → Counts 768 0 v → Counts 0 0 (step_view v drawing).view
unfolding step_view planned plan_call plan_blocking_read credited further taken pick
drawn v c =
    record {
      fine = step-fine v drawing c.fine;
      input_is = rw (plan_in_range v drawing c.fine, c.input_is, c.blocking_is) refl;
      blocking_is = rw (plan_in_range v drawing c.fine, c.input_is, c.blocking_is) refl;
    }

nine_bytes : (v : View) → Counts 768 0 v → (step_view v drawing).answer.delivered ≡ 9
unfolding step_view planned plan_call plan_blocking_read credited further taken pick
nine_bytes v c = rw (plan_in_range v drawing c.fine, c.input_is, c.blocking_is) refl

-- n rounds deliver 9 n bytes, and award 128 n bits
rounds-deliver : (n : ℕ) (v : View) → Counts 0 0 v → delivered (rounds n) (answers_from v (rounds n)) ≡ 9 * n
unfolding rounds summed answers_from
rounds-deliver zero v c = refl
rounds-deliver (suc n) v c =
    let d = paid v c in
    let r = rounds-deliver n _ (drawn _ d) in
    omega (arith, nine_bytes _ d, r)

rounds-award : (n : ℕ) (earlier : List PublicCall) → sum ◌+◌ 0 (awards_from earlier (rounds n)) ≡ 128 * n
unfolding rounds awards_from award sum pick
rounds-award zero earlier = refl
rounds-award (suc n) earlier = let r = rounds-award n (drawing ∷ paying ∷ earlier) in omega (arith, r)

fresh_counts : Counts 0 0 fresh_view
fresh_counts = record { fine = fresh-fine; input_is = refl; blocking_is = refl }

-- REACHED, after every round
pub reached : (n : ℕ) → 128 * delivered (rounds n) (answers_from fresh_view (rounds n)) ≡ 9 * awarded (rounds n)
reached n = omega (arith, rounds-deliver n fresh_view fresh_counts, rounds-award n [])

-- the numbers of one round
pub one_round : (delivered (rounds 1) (answers_from fresh_view (rounds 1)) ≡ 9) × (awarded (rounds 1) ≡ 128)
one_round = (rounds-deliver 1 fresh_view fresh_counts, rounds-award 1 [])

-- no less is enough: one round shows it
no_less : (p q : ℕ) → ((cs : List PublicCall) → q * delivered cs (answers_from fresh_view cs) ≤ p * awarded cs) → q * 9 ≤ p * 128
no_less p q h = rw (sym one_round.0, sym one_round.1) (h (rounds 1))

-- and no more is needed, by the ledger
no_more : (p q : ℕ) → q * 9 ≤ p * 128 → (cs : List PublicCall) → q * delivered cs (answers_from fresh_view cs) ≤ p * awarded cs
no_more p q h cs =
    let d = delivered cs (answers_from fresh_view cs) in
    let a = awarded cs in
    let bound : q * (128 * d) ≤ q * (9 * a) = mul-le-mul_left q (books cs).ledger in
    let part : q * 9 * a ≤ p * 128 * a = mul-le-mul_right a h in
    le_of_mul-le-mul_left {k = 128} (omega (arith, bound, part)) (omega arith)

-- THE BOUND IS EXACT: q × delivered is at most p × awarded, whatever the calls, exactly if p/q is 9/128 or more
pub exact : (p q : ℕ) → ((cs : List PublicCall) → q * delivered cs (answers_from fresh_view cs) ≤ p * awarded cs) ↔ (q * 9 ≤ p * 128)
exact p q = (no_less p q, no_more p q)
