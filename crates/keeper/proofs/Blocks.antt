-- Demand 2 on blocking reads: for n of 1 or more within 4,096 on a record in range, answer 1 comes exactly if the blocking count is below
-- 64 and the input count below 512; and a read that is not refused hands out at least one byte.
use mathlib.Core.Path.{◌≡◌, refl, sym, ap, ap₂, ◌∙◌}
use mathlib.Core.Bool.{true}
use mathlib.Core.Logic.{◌↔◌}
use Prim.Native.Nat.{ℕ, ◌+◌, ◌≤◌}
use lib.ListN.{length, length-append}
use Rattle.ledger.specs.Shapes.{blocking_shape}
use Rattle.ledger.specs.Marks.{Low}
use Rattle.ledger.specs.PublicCalls.{blocking_read}
use Rattle.ledger.specs.Plans.{plan_blocking_read, plan_call, decide}
use Rattle.ledger.specs.Machine.{planned, plan_at, step_view}
use Rattle.ledger.specs.declared.Plan.{Plan}
use Rattle.ledger.proofs.Picks.{pick_both}
use Rattle.ledger.proofs.Blocking.{blocking_exact, blocking_flows}
use Rattle.pool.proofs.Extracted.{laws}
use Rattle.keeper.specs.Record.{view, fine, Outcome}
use Rattle.keeper.specs.Calls.{public, blocking_read_of}
use Rattle.keeper.specs.Narrative.{told}
use Rattle.keeper.specs.Obey.{from_generator, for_delivery, obey, step}
use Rattle.keeper.specs.declared.Keeper.{Keeper}
use Rattle.keeper.proofs.KeyChange.{generated_none}
use Rattle.keeper.proofs.Same.{same}
use Rattle.keeper.proofs.Shadow.{number_is}
use Rattle.keeper.proofs.StaysInRange.{facts}

-- a blocking read's plan streams nothing
streams_none : (k : Keeper) (n : ℕ) → (plan_at (view k) (blocking_read n)).stream ≡ 0
unfolding decide plan_call plan_blocking_read
streams_none k n =
    let P : Plan → Type 0 = λ p. p.stream ≡ 0 in
    pick_both P _ (pick_both P _ refl (pick_both P _ refl (pick_both P _ refl refl))) refl

-- so what it delivers is what the pool gave
delivers : (k : Keeper) (n : ℕ) → (told k (blocking_read_of n)).answer.delivered ≡ (step_view (view k) (blocking_read n)).answer.delivered
unfolding step obey step_view planned
delivers k n =
    let c = blocking_read_of n in
    let p = plan_at (view k) (public c) in
    let none : length (from_generator c p k).bytes ≡ 0 = rw (streams_none k n, generated_none) refl in
    ap (λ (o : Outcome). o.answer.delivered) (same k c) ∙ length-append (for_delivery c p k).bytes _
    ∙ ap₂ ◌+◌ ((laws blocking_shape).take-length p.deliver _) (none ∙ sym (streams_none k n))

module _ (k : Keeper) (n : ℕ) (f : fine k ≡ true) (some : 1 ≤ n) (few : n ≤ 4096) where
  -- DEMAND 2: `Low` has the two thresholds, blocking count below 64 and input count below 512
  pub demand_2 : ((told k (blocking_read_of n)).answer.number ≡ 1) ↔ Low k.ledger
  demand_2 = rw (number_is k (blocking_read_of n)) (blocking_exact n (view k) some few (facts k f))

  -- else it is answered 0, with a byte or more
  pub flows : (Low k.ledger → ⊥) → ((told k (blocking_read_of n)).answer.number ≡ 0) × (1 ≤ (told k (blocking_read_of n)).answer.delivered)
  flows h = rw (number_is k (blocking_read_of n), delivers k n) (blocking_flows n (view k) some few (facts k f) h)
