-- What a credit was worth: the units added are the sum of what the turns add, and of every call, at every view, the answer tells exactly
-- how far the counts rose at its creditings, before any debit.
use mathlib.Core.Path.{◌≡◌, refl, ap}
use mathlib.Core.Bool.{Bool, true, false, ◌&&◌, not}
use mathlib.Core.List.{List, [], ◌∷◌, sum}
use Prim.Native.Nat.{ℕ, zero, suc, ◌+◌, ◌-◌, ◌*◌, min, max}
use native.Mathlib.Omega.{arith}
use lib.Dec.{ltb, leb, eqb}
use Rattle.ledger.specs.Choice.{pick}
use Rattle.ledger.specs.Shapes.{input_shape, blocking_shape}
use Rattle.ledger.specs.Credits.{turn_takes, turn_adds, further, credited, crediting, further_adds, credit_adds}
use Rattle.ledger.specs.Clocks.{event_bits}
use Rattle.ledger.specs.Marks.{is_seeded, valued, spilled, reseed_due}
use Rattle.ledger.specs.Timers.{timer_of}
use Rattle.ledger.specs.Range.{View}
use Rattle.ledger.specs.PublicCalls.{PublicCall, event, interrupt, write, seed, read, blocking_read, device_of}
use Rattle.ledger.specs.Plans.{idle, first_seeding, feed, transferred, plan_event, plan_interrupt, plan_write, plan_seed, plan_read, plan_blocking_read, plan_call, decide, answer_of}
use Rattle.ledger.specs.Machine.{Shown, planned, plan_at, step_view}
use Rattle.ledger.specs.Worth.{taken_from_input, Worth}
use Rattle.ledger.specs.declared.Ledger.{Ledger}
use Rattle.ledger.specs.declared.Timer.{Timer}
use Rattle.ledger.specs.declared.Plan.{Plan}
use Rattle.ledger.proofs.Picks.{pick_both}
use Rattle.ledger.proofs.Crediting.{credited_grows, taken_fits, debit_fits}
use Rattle.ledger.proofs.Still.{refused}

-- ---- turn by turn
-- a count rises by a turn and by the turns after it, or stays
either : (t : Bool) (count a r : ℕ) (more : List ℕ) → r ≡ count + a + sum ◌+◌ 0 more → pick t r count ≡ count + sum ◌+◌ 0 (pick t (a ∷ more) [])
unfolding pick sum
either true count a r more e = omega (arith, e)
either false count a r more e = omega arith

pub further-sum : (S f rest count : ℕ) → further S f rest count ≡ count + sum ◌+◌ 0 (further_adds S f rest count)
unfolding further further_adds sum
further-sum S zero rest count = omega arith
further-sum S (suc f) rest count =
    either (ltb 0 rest && ltb count (S - 2)) count (turn_adds S count rest) _ _ (further-sum S f (rest - turn_takes S rest) (count + turn_adds S count rest))

credited-sum : (t : Bool) (S n count : ℕ) → eqb n 0 ≡ t → credited S n count ≡ count + sum ◌+◌ 0 (credit_adds S n count)
unfolding credited credit_adds pick sum
credited-sum true S n count e = rw e (omega arith)
credited-sum false S n count e = rw e (omega (arith, further-sum S (8 * n) (8 * n - turn_takes S (8 * n)) (count + turn_adds S count (8 * n))))

-- THE SUM: the units added are what the turns add, one after another
pub added_is_sum : (S n count : ℕ) → (crediting S n count).added ≡ sum ◌+◌ 0 (credit_adds S n count)
added_is_sum S n count = omega (arith, credited-sum (eqb n 0) S n count refl)

-- ---- plans
-- a plan at a ledger, carried out
record PlanWorth (c : PublicCall) (l : Ledger) (p : Plan) : Type 0 where
  is : Worth c l p p.ledger (answer_of p)

-- nothing done: nothing added, nothing taken
none : (c : PublicCall) (n : ℕ) (l : Ledger) → PlanWorth c l (idle n l)
none (event device now value) n l = record { is = record { added = refl; input = omega arith; blocking = omega arith } }
none (interrupt now number) n l = record { is = record { added = refl; input = omega arith; blocking = omega arith } }
none (write len) n l = record { is = record { added = refl; input = omega arith; blocking = omega arith } }
none (seed now len credit) n l = record { is = record { added = refl; input = omega arith; blocking = omega arith } }
none (read now len) n l = record { is = record { added = refl; input = omega arith; blocking = omega arith } }
none (blocking_read len) n l = record { is = record { added = refl; input = omega arith; blocking = omega arith } }

-- a credit to the input pool, of which a first seeding may then take
record Fed (l : Ledger) (p : Plan) : Type 0 where
  input : p.ledger.input.count + 64 * taken_from_input p ≡ l.input.count + p.added
  blocking : p.ledger.blocking.count ≡ l.blocking.count

fed : (now : ℕ) (stirs : Bool) (n : ℕ) (l : Ledger) → Fed l (feed now stirs n l)
unfolding feed first_seeding
fed now stirs n l =
    let c = credited input_shape.size n l.input.count in
    let due = not (eqb n 0) && (not (is_seeded l) && leb 1024 c) in
    record { input = omega (arith, credited_grows input_shape.size n l.input.count, debit_fits due 32 16 c); blocking = refl }

-- a reseed before a read
read_worth : (now len : ℕ) (l : Ledger) → PlanWorth (read now len) l (plan_read now len l)
unfolding plan_read
read_worth now len l =
    let c = read now len in
    let P = PlanWorth c l in
    pick_both P _ (none c 3 l) (pick_both P _ (none c 0 l) (pick_both P _ (none c 2 l)
    (record { is = record { added = refl; input = omega (arith, debit_fits (reseed_due now l) 32 16 l.input.count); blocking = omega arith } })))

-- bytes brought over, credited to the blocking pool, and what is then delivered
blocking_worth : (n : ℕ) (l : Ledger) → PlanWorth (blocking_read n) l (plan_blocking_read n l)
unfolding plan_blocking_read
blocking_worth n l =
    let c = blocking_read n in
    let P = PlanWorth c l in
    let t = transferred n l in
    let b = l.blocking.count in
    let r = credited blocking_shape.size (8 * t) b in
    pick_both P _ (none c 3 l) (pick_both P _ (none c 0 l) (pick_both P _ (none c 1 l)
    (record {
      is =
          record {
            added = omega arith;
            input = omega (arith, debit_fits (ltb b (64 * n)) (min (max n 8) 128) 8 l.input.count);
            blocking = omega (arith, credited_grows blocking_shape.size (8 * t) b, taken_fits n 0 r);
          };
    })))

-- each call
plan_worth : (l : Ledger) (t : Timer) (c : PublicCall) → PlanWorth c l (plan_call l t c)
unfolding plan_call plan_event plan_interrupt plan_write plan_seed
plan_worth l t (event device now value) =
    let c = event device now value in
    let f = fed now false (event_bits now t) (valued device value l) in
    pick_both (PlanWorth c l) _ (none c 4 l) (pick_both (PlanWorth c l) _ (none c 7 l) (record { is = record { added = omega arith; input = f.input; blocking = omega (arith, f.blocking) } }))
plan_worth l t (interrupt now number) =
    let f = fed now true 1 (spilled now l) in
    pick_both (PlanWorth (interrupt now number) l) _ (record { is = record { added = refl; input = omega arith; blocking = omega arith } }) (record { is = record { added = omega arith; input = f.input; blocking = omega (arith, f.blocking) } })
plan_worth l t (write len) = pick_both (PlanWorth (write len) l) _ (none (write len) 3 l) (record { is = record { added = refl; input = omega arith; blocking = omega arith } })
plan_worth l t (seed now len credit) =
    let c = seed now len credit in
    let f = fed now false credit l in
    pick_both (PlanWorth c l) _ (none c 3 l) (pick_both (PlanWorth c l) _ (none c 5 l) (record { is = record { added = omega arith; input = f.input; blocking = omega (arith, f.blocking) } }))
plan_worth l t (read now len) = read_worth now len l
plan_worth l t (blocking_read n) = blocking_worth n l

-- ---- every call
-- THE EQUATION: at any view, in range or not, what is told was added, and each count with what was taken is the count before with what
-- was added
pub worth : (v : View) (c : PublicCall) → let s = step_view v c in Worth c v.ledger (plan_at v c) s.view.ledger s.answer
unfolding step_view planned decide
worth v c = let w = pick_both (PlanWorth c v.ledger) _ (plan_worth v.ledger (timer_of v.timers (device_of c)) c) (none c 17 v.ledger) in
    record { added = w.is.added; input = w.is.input; blocking = w.is.blocking }

-- a call that is not answered 0 adds nothing
pub refused_adds_none : (v : View) (c : PublicCall) → ((step_view v c).answer.number ≡ 0 → ⊥) → (step_view v c).answer.added ≡ 0
refused_adds_none v c h = ap (λ (s : Shown). s.answer.added) (refused v c h)
