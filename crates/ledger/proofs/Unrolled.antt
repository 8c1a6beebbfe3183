-- Crediting as a recursion on the rest: the bound on the turns of `further` never bites, and one turn unrolls as the paper tells it.
use mathlib.Core.Path.{◌≡◌, refl, sym, ◌∙◌}
use mathlib.Core.Bool.{Bool, ◌&&◌}
use Prim.Native.Nat.{ℕ, zero, suc, ◌+◌, ◌-◌, ◌*◌, ◌≤◌, ◌<◌}
use native.Mathlib.Omega.{arith}
use lib.Dec.{ltb}
use borrow.Author.Tests.{ne_eqb}
use Rattle.ledger.specs.Choice.{pick}
use Rattle.ledger.specs.Credits.{turn_takes, turn_adds, further, credited}

-- the turns that a rest still brings
abbrev pub turns : ℕ → ℕ → ℕ → ℕ
turns S rest count = further S rest rest count

-- equal first choices make equal choices
pick_same : (t : Bool) (x y c : ℕ) → x ≡ y → pick t x c ≡ pick t y c
pick_same t x y c e = rw e

-- no rest, no turn
pub no_rest : (S f count : ℕ) → further S f 0 count ≡ count
unfolding further pick
no_rest S zero count = refl
no_rest S (suc f) count = refl

-- the only number that is at most 0
only_zero : (r : ℕ) → r ≤ 0 → r ≡ 0
only_zero r p = omega arith

-- any two bounds on the turns that reach the rest give the same
pub enough : (S f g rest count : ℕ) → 2 ≤ S → rest ≤ f → rest ≤ g → further S f rest count ≡ further S g rest count
unfolding further
enough S zero g rest count h p q = sym (rw (only_zero rest p) (no_rest S g count))
enough S (suc f) zero rest count h p q = rw (only_zero rest q) (no_rest S (suc f) count)
enough S (suc f) (suc g) zero count h p q = no_rest S (suc f) count ∙ sym (no_rest S (suc g) count)
enough S (suc f) (suc g) (suc r) count h p q =
    pick_same _ _ _ count (enough S f g (suc r - turn_takes S (suc r)) (count + turn_adds S count (suc r)) h (omega arith) (omega arith))

-- one turn unrolled: turns go on while the rest is above 0 and the count is below S - 2
pub unroll : (S rest count : ℕ) → 2 ≤ S → turns S rest count ≡ pick (ltb 0 rest && ltb count (S - 2)) (turns S (rest - turn_takes S rest) (count + turn_adds S count rest)) count
unfolding further pick
unroll S zero count h = refl
unroll S (suc r) count h =
    pick_same (ltb 0 (suc r) && ltb count (S - 2)) _ _ count (enough S r (suc r - turn_takes S (suc r)) (suc r - turn_takes S (suc r)) (count + turn_adds S count (suc r)) h (omega arith) (omega arith))

-- crediting 0 bits does nothing
pub credited_none : (S count : ℕ) → credited S 0 count ≡ count
unfolding credited pick
credited_none S count = refl

-- crediting n bits, n above 0, is a first turn on a rest of 8 n, then turns on what is left
pub credited-turns : (S n count : ℕ) → 2 ≤ S → 0 < n → credited S n count ≡ turns S (8 * n - turn_takes S (8 * n)) (count + turn_adds S count (8 * n))
unfolding credited pick
credited-turns S n count h k =
    rw (ne_eqb n 0 (λ e. omega arith)) (enough S (8 * n) (8 * n - turn_takes S (8 * n)) (8 * n - turn_takes S (8 * n)) (count + turn_adds S count (8 * n)) h (omega arith) (omega arith))
