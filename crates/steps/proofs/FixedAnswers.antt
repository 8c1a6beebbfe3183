-- Demand 1 of the code: by its contract, what a call leaves is one fixed thing; where its answer is not 0, that is the record and the room as
-- they were, nothing delivered, no work and nothing added. So too the making of a keeper.
use mathlib.Core.Path.{◌≡◌, sym, ap, ◌∙◌}
use mathlib.Core.List.{List, []}
use Prim.Native.Nat.{ℕ}
use lib.ListN.{length}
use Rattle.ledger.specs.Plans.{bare}
use Rattle.keeper.specs.Record.{refused, fresh}
use Rattle.keeper.specs.Calls.{Call}
use Rattle.keeper.specs.Narrative.{told}
use Rattle.keeper.specs.declared.Keeper.{Keeper}
use Rattle.keeper.proofs.Refusals.{demand_1, making_48, making_refuses}
use Rattle.steps.specs.Promise.{Left, left, over, leaves, leaves_made}

-- any two things that a call's promise allows are the same
pub one_answer : (k : Keeper) (c : Call) (room : List ℕ) (x y : Left) → x ≡ leaves k c room → y ≡ leaves k c room → x ≡ y
one_answer k c room x y ex ey = ex ∙ sym ey

pub one_making : (k : Keeper) (start : List ℕ) (x y : Left) → x ≡ leaves_made k start → y ≡ leaves_made k start → x ≡ y
one_making k start x y ex ey = ex ∙ sym ey

-- DEMAND 1
pub refuses : (k : Keeper) (c : Call) (room : List ℕ) (x : Left) → x ≡ leaves k c room → (x.answer.number ≡ 0 → ⊥)
    → x ≡ left k (bare x.answer.number) room
unfolding leaves
refuses k c room x e h =
    let n : x.answer.number ≡ (told k c).answer.number = ap (λ (y : Left). y.answer.number) e in
    e ∙ ap (over room) (demand_1 k c (λ z. h (n ∙ z))) ∙ ap (λ (m : ℕ). over room (refused m k)) (sym n)

-- from 48 start bytes a fresh keeper is made; from any other number of them, none
pub makes : (k : Keeper) (start : List ℕ) (x : Left) → x ≡ leaves_made k start → length start ≡ 48 → x ≡ over [] (refused 0 (fresh start))
unfolding leaves_made
makes k start x e h = e ∙ ap (over []) (making_48 start k h)

pub makes_none : (k : Keeper) (start : List ℕ) (x : Left) → x ≡ leaves_made k start → (length start ≡ 48 → ⊥) → x ≡ over [] (refused 6 k)
unfolding leaves_made
makes_none k start x e h = e ∙ ap (over []) (making_refuses start k h)
