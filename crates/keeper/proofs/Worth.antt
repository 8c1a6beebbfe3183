-- What a credit was worth, of whole keepers: `ledger` has it of what can be seen, and a call on any keeper, whatever it holds, moves the
-- counts and tells the units as those rules do.
use mathlib.Core.Path.{◌≡◌, refl, sym, ap, ◌∙◌}
use Prim.Native.Nat.{ℕ}
use lib.ListN.{length}
use Rattle.ledger.specs.PublicCalls.{blocking_read}
use Rattle.ledger.specs.Plans.{plan_blocking_read, plan_call, decide, answer_of}
use Rattle.ledger.specs.Machine.{planned, plan_at, step_view}
use Rattle.ledger.specs.Range.{View}
use Rattle.ledger.specs.Worth.{of_blocking, Worth}
use Rattle.ledger.specs.declared.Plan.{Plan}
use Rattle.ledger.specs.declared.Answer.{Answer}
use Rattle.ledger.proofs.Picks.{pick_both}
use Rattle.ledger.proofs.Worth as Seen
use Rattle.keeper.specs.Generator.{Stream}
use Rattle.keeper.specs.Record.{view}
use Rattle.keeper.specs.Calls.{Call, device_event, interrupted, written, seeded_with, generator_read, blocking_read_of, public}
use Rattle.keeper.specs.Narrative.{told}
use Rattle.keeper.specs.Obey.{obey, step}
use Rattle.keeper.specs.declared.Keeper.{Keeper}
use Rattle.keeper.proofs.Carried.{answer_is, none_made}
use Rattle.keeper.proofs.Same.{same}

-- a blocking read makes no use of the generator ..
record NoStream (p : Plan) : Type 0 where
  none : p.stream ≡ 0

no_stream : (v : View) (n : ℕ) → NoStream (plan_at v (blocking_read n))
unfolding decide plan_call plan_blocking_read
no_stream v n =
    let P = NoStream in
    pick_both P _ (pick_both P _ (record { none = refl }) (pick_both P _ (record { none = refl }) (pick_both P _ (record { none = refl }) (record { none = refl })))) (record { none = refl })

-- .. so what it delivers is what its plan takes from the blocking pool
blocking_answer : (k : Keeper) (n : ℕ) → (obey (blocking_read_of n) (plan_at (view k) (blocking_read n)) k).answer ≡ answer_of (plan_at (view k) (blocking_read n))
blocking_answer k n =
    let p = plan_at (view k) (blocking_read n) in
    let e = (no_stream (view k) n).none in
    answer_is (blocking_read_of n) p k (ap (λ (s : Stream). length s.bytes) (none_made p.stream _ e) ∙ sym e)

taken : (k : Keeper) (c : Call)
    → of_blocking (public c) (step k c).answer.delivered ≡ of_blocking (public c) (step_view (view k) (public c)).answer.delivered
unfolding step step_view planned
taken k (device_event device now stamp value) = refl
taken k (interrupted now number stamp address) = refl
taken k (written bs) = refl
taken k (seeded_with now bs credit) = refl
taken k (generator_read now len) = refl
taken k (blocking_read_of n) = ap (λ (a : Answer). a.delivered) (blocking_answer k n)

step_worth : (k : Keeper) (c : Call) → let o = step k c in Worth (public c) k.ledger (plan_at (view k) (public c)) o.keeper.ledger o.answer
unfolding step obey step_view planned
step_worth k c =
    let w = Seen.worth (view k) (public c) in
    record { added = w.added; input = w.input; blocking = rw (taken k c) w.blocking }

-- THE EQUATION, of every keeper and every call
pub worth : (k : Keeper) (c : Call) → let o = told k c in Worth (public c) k.ledger (plan_at (view k) (public c)) o.keeper.ledger o.answer
worth k c = rw (same k c) (step_worth k c)
