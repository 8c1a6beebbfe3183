-- Every answer of a keeper in range is small: its number, what it delivers, the work that it tells and the units that it added.
use mathlib.Core.Bool.{Bool, true, false}
use Prim.Native.Nat.{ℕ, ◌*◌, ◌≤◌}
use native.Mathlib.Omega.{arith}
use Rattle.ledger.specs.Sizes.{input_size, blocking_size, longest}
use Rattle.ledger.specs.Places.{costs}
use Rattle.ledger.specs.Streams.{one_more, stream_blocks}
use Rattle.ledger.specs.Timers.{timer_of}
use Rattle.ledger.specs.Range.{View, others_in_range}
use Rattle.ledger.specs.PublicCalls.{PublicCall, event, interrupt, write, seed, read, blocking_read, device_of}
use Rattle.ledger.specs.Plans.{Small, idle, feed, transferred, plan_event, plan_interrupt, plan_write, plan_seed, plan_read, plan_blocking_read, plan_call, decide, compressions_run}
use Rattle.ledger.specs.Machine.{planned, plan_at, step_view}
use Rattle.ledger.specs.declared.Answer.{Answer}
use Rattle.ledger.specs.declared.Ledger.{Ledger}
use Rattle.ledger.specs.declared.Plan.{Plan}
use Rattle.ledger.specs.declared.Timer.{Timer}
use Rattle.ledger.proofs.Picks.{pick_both}
use Rattle.ledger.proofs.Crediting.{credited-room}
use Rattle.ledger.proofs.InRange.{LedgerFine, Fine, fine_low}
use Rattle.ledger.proofs.SmallPlans.{small}

pub record SmallAnswer (a : Answer) : Type 0 where
  pub number : a.number ≤ 7
  pub delivered : a.delivered ≤ 2 * longest
  pub blocks : a.blocks ≤ 65
  pub compressions : a.compressions ≤ 956
  pub added : a.added ≤ input_size

-- ---- what a plan adds: a credit stays within its pool, and the input pool is the larger one
record AddsFew (p : Plan) : Type 0 where
  few : p.added ≤ input_size

none : (n : ℕ) (l : Ledger) → AddsFew (idle n l)
none n l = record { few = omega arith }

feed-few : (now : ℕ) (stirs : Bool) (n : ℕ) (l : Ledger) → l.input.count ≤ input_size → AddsFew (feed now stirs n l)
unfolding feed
feed-few now stirs n l h = record { few = omega (arith, credited-room input_size n l.input.count (omega arith) h) }

blocking_few : (n : ℕ) (l : Ledger) → LedgerFine l → AddsFew (plan_blocking_read n l)
unfolding plan_blocking_read
blocking_few n l f =
    let r = credited-room blocking_size (8 * transferred n l) l.blocking.count (omega arith) f.blocking.count in
    pick_both AddsFew _ (none 3 l) (pick_both AddsFew _ (none 0 l) (pick_both AddsFew _ (none 1 l) (record { few = omega (arith, r) })))

plan_few : (l : Ledger) (t : Timer) (c : PublicCall) → LedgerFine l → AddsFew (plan_call l t c)
unfolding plan_call plan_event plan_interrupt plan_write plan_seed plan_read
plan_few l t (event device now value) f =
    let g = feed-few now false _ _ f.input.count in
    pick_both AddsFew _ (none 4 l) (pick_both AddsFew _ (none 7 l) (record { few = g.few }))
plan_few l t (interrupt now number) f = pick_both AddsFew _ (record { few = omega arith }) (feed-few now true 1 _ f.input.count)
plan_few l t (write len) f = pick_both AddsFew _ (none 3 l) (record { few = omega arith })
plan_few l t (seed now len credit) f = pick_both AddsFew _ (none 3 l) (pick_both AddsFew _ (none 5 l) (feed-few now false credit l f.input.count))
plan_few l t (read now len) f = pick_both AddsFew _ (none 3 l) (pick_both AddsFew _ (none 0 l) (pick_both AddsFew _ (none 2 l) (record { few = omega arith })))
plan_few l t (blocking_read n) f = blocking_few n l f

added_few : (v : View) (c : PublicCall) → Fine v → AddsFew (plan_at v c)
unfolding decide
added_few v c f = pick_both AddsFew _ (plan_few v.ledger (timer_of v.timers (device_of c)) c f.ledger) (none 17 v.ledger)

-- ---- what a small plan costs
blocks_few : (len : ℕ) → len ≤ longest → stream_blocks len ≤ 65
blocks_few len h = pick_both (λ (n : ℕ). n ≤ 65) (one_more len) (omega arith) (omega arith)

work_few : (p : Plan) → Small p → compressions_run p ≤ 956
unfolding costs
work_few p s = omega (arith, s.reseed, s.transfer, s.deliver)

-- EVERY ANSWER IS SMALL
pub answer_small : (v : View) (c : PublicCall) → Fine v → SmallAnswer (step_view v c).answer
unfolding step_view planned
answer_small v c f =
    let p = plan_at v c in
    let s = small (others_in_range v.timers v.fixed) v.ledger (timer_of v.timers (device_of c)) c in
    record { number = fine_low v c f; delivered = omega (arith, s.deliver, s.stream); blocks = blocks_few p.stream s.stream; compressions = work_few p s; added = (added_few v c f).few }
