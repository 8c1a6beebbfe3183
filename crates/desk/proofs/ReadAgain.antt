-- A second read at the same clock: the first may have seeded the generator anew, and then the second does not. It runs one block more and
-- changes nothing that is public.
use mathlib.Core.Path.{◌≡◌, refl, sym, ap, ◌∙◌}
use mathlib.Core.Bool.{Bool, true, false, not, false≢true}
use Prim.Native.Nat.{ℕ, ◌+◌, ◌-◌, ◌*◌, ◌%◌, ◌^◌}
use native.Mathlib.Omega.{arith}
use lib.Dec.{eqb}
use borrow.Author.Tests.{eqb-true}
use Rattle.ledger.specs.Choice.{pick}
use Rattle.ledger.specs.Places.{moved, moved_blocks, extracted_from, costs}
use Rattle.ledger.specs.Clocks.{signed, clock_diff, exceeds}
use Rattle.ledger.specs.Credits.{reseed_takes}
use Rattle.ledger.specs.Marks.{input_counts, is_seeded, reseed_due}
use Rattle.ledger.specs.Range.{View, in_range}
use Rattle.ledger.specs.PublicCalls.{read}
use Rattle.ledger.specs.Plans.{idle, plan_of, plan_read, plan_call, reseeding}
use Rattle.ledger.specs.Machine.{Shown, input_moved, blocking_moved, planned, plan_at, step_view}
use Rattle.ledger.specs.declared.Ledger.{Ledger}
use Rattle.ledger.specs.declared.Plan.{Plan}
use Rattle.ledger.specs.declared.Seeding.{Seeding}
use Rattle.ledger.specs.declared.Answer.{Answer}
use Rattle.ledger.proofs.Picks.{pick_by, pick_both}
use Rattle.ledger.proofs.InRange.{fine, fine_in_range, step-fine, plan_at_is}

-- what a read of 15 bytes takes for a seeding first
abbrev takes : ℕ → Ledger → ℕ
takes now l = pick (reseed_due now l) (reseed_takes l.input.count) 0

-- ---- no time has gone by
no_time : (now : ℕ) → exceeds (clock_diff now now) 300000 ≡ false
unfolding signed pick
no_time now = let e : (now + 2 ^ 32 - now) % 2 ^ 32 ≡ 0 = omega arith in rw e refl

-- the plan of a read of 15 bytes, which are neither too many nor none
abbrev read_plan : ℕ → Ledger → Plan
read_plan now l = plan_of 0 (reseeding now l.input.count (takes now l) l) 0 false false (takes now l) 0 0 15

read_15 : (now : ℕ) (l : Ledger) → plan_read now 15 l ≡ pick (not (is_seeded l)) (idle 2 l) (read_plan now l)
unfolding plan_read pick
read_15 now l = refl

-- ---- a view at which such a read is done
pub record Open (v : View) : Type 0 where
  pub sound : in_range v ≡ true
  pub seeded : is_seeded v.ledger ≡ true

open_plan : (now : ℕ) (v : View) → Open v → plan_at v (read now 15) ≡ read_plan now v.ledger
unfolding plan_call pick
open_plan now v o = plan_at_is v (read now 15) ∙ rw (o.sound, read_15 now v.ledger, o.seeded) refl

-- an open view's is done
pub open_done : (now : ℕ) (v : View) → Open v → (step_view v (read now 15)).answer.number ≡ 0
unfolding step_view planned
open_done now v o = ap (λ (p : Plan). p.number) (open_plan now v o)

-- .. after one block; it adds nothing
pub record OneBlock (a : Answer) : Type 0 where
  pub blocks : a.blocks ≡ 1
  pub adds : a.added ≡ 0

pub open_answer : (now : ℕ) (v : View) → Open v → OneBlock (step_view v (read now 15)).answer
unfolding step_view planned pick
open_answer now v o = rw (open_plan now v o) (record { blocks = refl; adds = refl })

-- .. and only there
record IfDone (v : View) (p : Plan) : Type 0 where
  so : p.number ≡ 0 → Open v

negated : (t : Bool) → not t ≡ false → t ≡ true
negated true h = refl
negated false h = absurd (false≢true (sym h))

if_done : (now : ℕ) (v : View) → IfDone v (plan_at v (read now 15))
unfolding plan_call
if_done now v =
    rw (plan_at_is v (read now 15))
    (pick_by (IfDone v) (in_range v)
    (λ h. rw (read_15 now v.ledger)
    (pick_by (IfDone v) (not (is_seeded v.ledger)) (λ n. record { so = λ e. absurd (omega arith) }) (λ n. record { so = λ e. record { sound = h; seeded = negated _ n } })))
    (λ h. record { so = λ e. absurd (omega arith) }))

pub done_open : (now : ℕ) (v : View) → (step_view v (read now 15)).answer.number ≡ 0 → Open v
unfolding step_view planned
done_open now v = (if_done now v).so

-- ---- a view at which it seeds nothing first
pub record Settled (now : ℕ) (v : View) : Type 0 where
  pub open_still : Open v
  pub takes_none : takes now v.ledger ≡ 0

-- one block, and nothing else
abbrev pub one_block : Answer
one_block = record { number = 0; delivered = 15; blocks = 1; compressions = 0; added = 0 }

-- what it shows, the input count put down as a number
abbrev shows : View → ℕ → Shown
shows v count = record { view = record { ledger = input_counts count v.ledger; timers = v.timers; fixed = v.fixed }; answer = one_block }

pub settled_reads : (now : ℕ) (v : View) → Settled now v → step_view v (read now 15) ≡ record { view = v; answer = one_block }
unfolding step_view planned input_moved blocking_moved moved moved_blocks extracted_from costs pick
settled_reads now v s =
    let plan = ap (λ (p : Plan). planned (read now 15) p v) (open_plan now v s.open_still) in
    let none : planned (read now 15) (read_plan now v.ledger) v ≡ shows v (v.ledger.input.count - 64 * 0) = rw s.takes_none refl in
    let all : v.ledger.input.count - 64 * 0 ≡ v.ledger.input.count = omega arith in
    plan ∙ none ∙ ap (shows v) all

-- ---- which is every view that such a read leaves
-- the seeding and the input count after a read that takes t bytes first
seeded_still : (now t : ℕ) (l : Ledger) → is_seeded l ≡ true → is_seeded (reseeding now l.input.count t l) ≡ true
seeded_still now t l h = pick_both (λ (s : Seeding). eqb s.mark 1 ≡ true) (eqb t 0) h refl

takes_no_more : (now : ℕ) (l : Ledger) → takes now (reseeding now l.input.count (takes now l) l) ≡ 0
unfolding pick
takes_no_more now l = go (eqb (takes now l) 0) refl
  where
    go : (t : Bool) → eqb (takes now l) 0 ≡ t → takes now (reseeding now l.input.count (takes now l) l) ≡ 0
    go true e =
        let z = eqb-true (takes now l) 0 e in
        let all : l.input.count - 64 * takes now l ≡ l.input.count = omega arith in
        rw (e, all) z
    go false e = rw (e, no_time now) refl

pub leaves_settled : (now : ℕ) (v : View) → Open v → Settled now (step_view v (read now 15)).view
unfolding step_view planned
leaves_settled now v o =
    let l = v.ledger in
    let e = open_plan now v o in
    record {
      open_still = record { sound = fine_in_range _ (step-fine v (read now 15) (fine v o.sound)); seeded = rw e (seeded_still now (takes now l) l o.seeded) };
      takes_none = rw e (takes_no_more now l);
    }
