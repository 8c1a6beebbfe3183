-- Demand 1: a call answered with anything but 0 leaves the whole record and the output room as they were, hands out nothing and
-- reports no work; and so does a refused making.
use mathlib.Core.Path.{◌≡◌, refl}
use mathlib.Core.List.{List}
use Prim.Native.Nat.{ℕ, ◌≤◌}
use native.Mathlib.Omega.{arith}
use lib.ListN.{length, length-append, length-drop, length-take}
use borrow.Author.Tests.{eq-eqb, ne_eqb}
use Rattle.ledger.specs.Choice.{pick}
use Rattle.ledger.specs.Shapes.{blocking_shape}
use Rattle.ledger.specs.PublicCalls.{asked}
use Rattle.ledger.specs.Machine.{planned, plan_at, step_view}
use Rattle.ledger.proofs.Still.{delivered_fits}
use Rattle.ledger.proofs.Picks.{pick_both}
use Rattle.pool.specs.Mixing.{mix}
use Rattle.pool.proofs.Extracted.{laws}
use Rattle.keeper.specs.Generator.{generated}
use Rattle.keeper.specs.Record.{Outcome, refused, reached, finished, fresh, view, blocking_pool, room_after, made}
use Rattle.keeper.specs.Calls.{Call, public, device_event, interrupted, written, seeded_with, generator_read, blocking_read_of}
use Rattle.keeper.specs.Narrative.{event_call, interrupt_call, write_call, seed_call, generate, read_call, deliver, blocking_call, act, told}
use Rattle.keeper.specs.Obey.{for_transfer, obey, step}
use Rattle.keeper.specs.declared.Keeper.{Keeper}
use Rattle.keeper.proofs.Same.{same}

-- an outcome that is a refusal wherever its number is not 0
abbrev pub Refuses : Keeper → Outcome → Type 0
Refuses k o = (o.answer.number ≡ 0 → ⊥) → o ≡ refused o.answer.number k

-- a refusal is one
itself : (k : Keeper) (n : ℕ) → Refuses k (refused n k)
itself k n h = refl

-- an outcome with the number 0 is none
answered : (k : Keeper) (o : Outcome) → o.answer.number ≡ 0 → Refuses k o
answered k o e h = absurd (h e)

act_refuses : (k : Keeper) (c : Call) → Refuses k (act k c)
unfolding act event_call interrupt_call write_call seed_call read_call generate deliver blocking_call
act_refuses k (device_event device now stamp value) = pick_both (Refuses k) _ (itself k 4) (pick_both (Refuses k) _ (itself k 7) (answered k _ refl))
act_refuses k (interrupted now number stamp address) = pick_both (Refuses k) _ (answered k _ refl) (answered k _ refl)
act_refuses k (written bs) = pick_both (Refuses k) _ (itself k 3) (answered k _ refl)
act_refuses k (seeded_with now bs credit) = pick_both (Refuses k) _ (itself k 3) (pick_both (Refuses k) _ (itself k 5) (answered k _ refl))
act_refuses k (generator_read now len) =
    pick_both (Refuses k) _ (itself k 3) (pick_both (Refuses k) _ (answered k _ refl) (pick_both (Refuses k) _ (itself k 2) (answered k _ refl)))
act_refuses k (blocking_read_of n) =
    pick_both (Refuses k) _ (itself k 3) (pick_both (Refuses k) _ (answered k _ refl) (pick_both (Refuses k) _ (itself k 1) (answered k _ refl)))

-- DEMAND 1, for the six calls: record, answer and bytes
pub demand_1 : (k : Keeper) (c : Call) → ((told k c).answer.number ≡ 0 → ⊥) → told k c ≡ refused (told k c).answer.number k
unfolding told
demand_1 k c = pick_both (Refuses k) _ (act_refuses k c) (itself k 17)

-- .. and the output room, whatever it holds: no byte is handed out, so every byte of it stays
pub room_stays : (n : ℕ) (k : Keeper) (room : List ℕ) → room_after room (refused n k).bytes ≡ room
room_stays n k room = refl

-- a making from 48 bytes answers 0 and gives the fresh keeper; from any other number of bytes it answers 6 and leaves the record
pub making_48 : (start : List ℕ) (k : Keeper) → length start ≡ 48 → made start k ≡ finished (reached (fresh start))
unfolding made pick
making_48 start k h = rw (eq-eqb (length start) 48 h)

pub making_refuses : (start : List ℕ) (k : Keeper) → (length start ≡ 48 → ⊥) → made start k ≡ refused 6 k
unfolding made pick
making_refuses start k h = rw (ne_eqb (length start) 48 h)

-- ---- what an answer says was delivered is what was handed out, and the room keeps its length
pub delivered : (k : Keeper) (c : Call) → (told k c).answer.delivered ≡ length (told k c).bytes
unfolding step obey
delivered k c = rw (same k c)

-- never more than was asked for
pub handed_fits : (k : Keeper) (c : Call) → length (told k c).bytes ≤ asked (public c)
unfolding step obey generated step_view planned
handed_fits k c =
    let p = plan_at (view k) (public c) in
    let d = (laws blocking_shape).take-length p.deliver (mix blocking_shape (blocking_pool k) (for_transfer c p k).bytes) in
    rw (same k c) (simp (length-append, length-take) (omega (arith, d, (delivered_fits (view k) (public c)).0)))

pub room_length : (k : Keeper) (c : Call) (room : List ℕ) → asked (public c) ≤ length room → length (room_after room (told k c).bytes) ≡ length room
room_length k c room h = let f = handed_fits k c in simp (length-append, length-drop) (omega arith)
