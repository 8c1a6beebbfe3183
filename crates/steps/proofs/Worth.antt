-- What a credit was worth, of the code: by its contract, what a call leaves of any record has counts that moved as its answer tells, and a
-- refusal tells 0.
use mathlib.Core.Path.{◌≡◌, ap, subst, sym}
use mathlib.Core.List.{List}
use Prim.Native.Nat.{ℕ}
use Rattle.ledger.specs.Machine.{plan_at}
use Rattle.ledger.specs.Worth.{Worth}
use Rattle.keeper.specs.Record.{view}
use Rattle.keeper.specs.Calls.{Call, public}
use Rattle.keeper.specs.declared.Keeper.{Keeper}
use Rattle.keeper.proofs.Worth as Told
use Rattle.steps.specs.Promise.{Left, leaves}
use Rattle.steps.proofs.FixedAnswers.{refuses}

-- THE EQUATION
pub worth : (k : Keeper) (c : Call) (room : List ℕ) (x : Left) → x ≡ leaves k c room → Worth (public c) k.ledger (plan_at (view k) (public c)) x.keeper.ledger x.answer
unfolding leaves
worth k c room x e = subst (λ (y : Left). Worth (public c) k.ledger (plan_at (view k) (public c)) y.keeper.ledger y.answer) (sym e) (Told.worth k c)

-- a refusal adds nothing
pub refused_adds_none : (k : Keeper) (c : Call) (room : List ℕ) (x : Left) → x ≡ leaves k c room → (x.answer.number ≡ 0 → ⊥) → x.answer.added ≡ 0
refused_adds_none k c room x e h = ap (λ (y : Left). y.answer.added) (refuses k c room x e h)
