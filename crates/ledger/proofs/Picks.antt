-- Choices and tests: what holds of both choices holds of the choice, and a test of two parts holds exactly if both parts hold.
use mathlib.Core.Path.{◌≡◌, refl}
use mathlib.Core.Bool.{Bool, true, false, ◌&&◌, and-eq-true_iff}
use Rattle.ledger.specs.Choice.{pick}

-- what holds of both choices holds of the choice
pub pick_both : {A : Type 0} (P : A → Type 0) (t : Bool) {x y : A} → P x → P y → P (pick t x y)
unfolding pick
pick_both P true p q = p
pick_both P false p q = q

-- the same, where each choice may use that the test came out its way
pub pick_by : {A : Type 0} (P : A → Type 0) (t : Bool) {x y : A} → (t ≡ true → P x) → (t ≡ false → P y) → P (pick t x y)
unfolding pick
pick_by P true p q = p refl
pick_by P false p q = q refl

-- the first part of a test that holds
pub and_left : (a b : Bool) → (a && b) ≡ true → a ≡ true
and_left a b h = ((and-eq-true_iff a b).0 h).0

-- its second part
pub and_right : (a b : Bool) → (a && b) ≡ true → b ≡ true
and_right a b h = ((and-eq-true_iff a b).0 h).1

-- two parts that hold make the test
pub both : (a b : Bool) → a ≡ true → b ≡ true → (a && b) ≡ true
both a b p q = (and-eq-true_iff a b).1 (p, q)
