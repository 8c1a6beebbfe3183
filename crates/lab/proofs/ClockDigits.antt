-- A word read as a clock.
use mathlib.Core.Path.{◌≡◌, refl, sym}
use mathlib.Core.Bool.{Bool, true, false, ◌&&◌}
use mathlib.Core.List.{List}
use Prim.Native.Nat.{ℕ, suc, ◌+◌, ◌-◌, ◌*◌, ◌^◌, ◌≤◌, ◌<◌}
use native.Mathlib.Omega.{arith}
use borrow.Author.Tests.{lt-ltb, le-ltb}
use lib.ListN.{length, get_or, drop, drop_of_length-le}
use lib.Seq.{drop-cons}
use Rattle.ledger.specs.Choice.{pick}
use Rattle.lab.specs.Numbers.{is_number, decimal}
use Rattle.lab.specs.Clocks.{Clock, is_clock, clock_of}
use Rattle.lab.proofs.Digits.{grows}

abbrev none : Clock
none = record { good = false; value = 0 }

either_way : (a : Bool) (x y : Clock) → pick (a && false) x y ≡ y
unfolding pick
either_way true x y = refl
either_way false x y = refl

-- from a place on: what is left gives the whole
module _ (w : List ℕ) (i v : ℕ) where
  pub next_digit : i < length w → decimal v (drop i w) ≡ decimal (v * 10 + (get_or w i 0 - 48)) (drop (suc i) w)
  unfolding decimal
  next_digit h = rw (drop-cons w i 0 h) refl

  pub no_digit_left : length w ≤ i → decimal v (drop i w) ≡ v
  unfolding decimal
  no_digit_left h = rw (drop_of_length-le w h) refl

module _ (w : List ℕ) where
  pub no_number : is_number w ≡ false → none ≡ clock_of w
  unfolding clock_of is_clock pick
  no_number e = rw e refl

  pub too_large : (v : ℕ) (rest : List ℕ) → decimal v rest ≡ decimal 0 w → 2 ^ 32 ≤ v → none ≡ clock_of w
  unfolding clock_of is_clock
  too_large v rest e h = rw (le-ltb (decimal 0 w) (2 ^ 32) (omega (arith, grows rest v, e, h))) (sym (either_way (is_number w) _ _))

  pub a_clock : (v : ℕ) → is_number w ≡ true → v ≡ decimal 0 w → v < 2 ^ 32 → (record { good = true; value = v }) ≡ clock_of w
  unfolding clock_of is_clock pick
  a_clock v n e h = rw (n, ← e, lt-ltb v (2 ^ 32) h) refl
