-- Demand 2 of the code: by its contract, what a call leaves is what the paper tells, part by part; the room keeps its length, and holds past
-- the delivered bytes what it held; and a blocking read is refused exactly where both counts are low.
use mathlib.Core.Path.{◌≡◌, sym, ap, ◌∙◌}
use mathlib.Core.Bool.{true}
use mathlib.Core.Logic.{◌↔◌}
use mathlib.Core.List.{List, ◌++◌}
use Prim.Native.Nat.{ℕ, ◌≤◌}
use lib.ListN.{length, drop}
use Rattle.ledger.specs.Marks.{Low}
use Rattle.ledger.specs.PublicCalls.{asked}
use Rattle.keeper.specs.Record.{fine}
use Rattle.keeper.specs.Calls.{Call, public, blocking_read_of}
use Rattle.keeper.specs.Narrative.{told}
use Rattle.keeper.specs.declared.Keeper.{Keeper}
use Rattle.ledger.specs.declared.Answer.{Answer}
use Rattle.keeper.proofs.Refusals.{delivered, room_length}
use Rattle.keeper.proofs.Blocks.{demand_2}
use Rattle.steps.specs.Promise.{Left, leaves, Told}

-- DEMAND 2
pub exactly : (k : Keeper) (c : Call) (room : List ℕ) (x : Left) → x ≡ leaves k c room → Told k c room x
unfolding leaves
exactly k c room x e =
    let a = ap (λ (y : Left). y.answer) e in
    let n : length (told k c).bytes ≡ x.answer.delivered = sym (ap (λ (b : Answer). b.delivered) a ∙ delivered k c) in
    record {
      keeper = ap (λ (y : Left). y.keeper) e;
      answer = a;
      room_holds = ap (λ (y : Left). y.room) e ∙ ap (λ (m : ℕ). (told k c).bytes ++ drop m room) n;
    }

-- a room that is as long as the read keeps its length
pub same_length : (k : Keeper) (c : Call) (room : List ℕ) (x : Left) → x ≡ leaves k c room → asked (public c) ≤ length room → length x.room ≡ length room
unfolding leaves
same_length k c room x e h = ap (λ (y : Left). length y.room) e ∙ room_length k c room h

-- a blocking read would block exactly where both counts are low
pub blocks_exactly : (k : Keeper) (n : ℕ) (room : List ℕ) (x : Left) → x ≡ leaves k (blocking_read_of n) room
    → fine k ≡ true → 1 ≤ n → n ≤ 4096 → (x.answer.number ≡ 1) ↔ Low k.ledger
unfolding leaves
blocks_exactly k n room x e f some few = rw (ap (λ (y : Left). y.answer.number) e) (demand_2 k n f some few)
