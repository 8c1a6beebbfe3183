-- The keeper as far as it can be seen: what is public of its record, what a call makes of that, and what it answers. Nothing here is
-- secret, so what the keeper shows cannot depend on a secret; that the keeper shows this and nothing else is proved above.
use Rattle.std.specs.Prelude.{ℕ}
use Rattle.ledger.specs.Choice.{pick}
use Rattle.ledger.specs.Shapes.{input_shape, blocking_shape}
use Rattle.ledger.specs.Places.{moved, extracted_from}
use Rattle.ledger.specs.Timers.{Timers, fresh_timers, timer_of, kept}
use Rattle.ledger.specs.Marks.{with_spots, fresh_ledger}
use Rattle.ledger.specs.Range.{View, others_in_range, fixed_words}
use Rattle.ledger.specs.PublicCalls.{PublicCall, brings, device_of}
use Rattle.ledger.specs.Plans.{decide, answer_of}
use Rattle.ledger.specs.declared.Ledger.{Ledger}
use Rattle.ledger.specs.declared.Plan.{Plan}
use Rattle.ledger.specs.declared.Answer.{Answer}
use Rattle.ledger.specs.declared.Spot.{Spot}

-- what a call shows: what is public of the record afterwards, and the answer
pub record Shown : Type 0 where
  pub view : View
  pub answer : Answer

abbrev pub fresh_view : View
fresh_view = record { ledger = fresh_ledger; timers = fresh_timers; fixed = fixed_words }

-- the timers after a plan: the device's is kept, if the plan says so
abbrev pub timers_after : ℕ → Plan → Timers → Timers
timers_after device p ts = pick p.keeps (kept device p.timer ts) ts

-- the spots after the plan's bytes went in and out: fed, reseeded, transferred; transferred, delivered
unfoldable pub input_moved : ℕ → Plan → Ledger → Spot
input_moved n p l = extracted_from input_shape p.transfer (extracted_from input_shape p.reseed (moved input_shape (pick p.feeds n 0) l.input.spot))

unfoldable pub blocking_moved : Plan → Ledger → Spot
blocking_moved p l = extracted_from blocking_shape p.deliver (moved blocking_shape p.transfer l.blocking.spot)

-- what is public after a plan is carried out
abbrev pub view_under : PublicCall → Plan → View → View
view_under c p v =
    record {
      ledger = with_spots (input_moved (brings c) p v.ledger) (blocking_moved p v.ledger) p.ledger;
      timers = timers_after (device_of c) p v.timers;
      fixed = v.fixed;
    }

-- what a call shows under a plan
unfoldable pub planned : PublicCall → Plan → View → Shown
planned c p v = record { view = view_under c p v; answer = answer_of p }

-- the plan for a call at a view
abbrev pub plan_at : View → PublicCall → Plan
plan_at v c = decide (others_in_range v.timers v.fixed) v.ledger (timer_of v.timers (device_of c)) c

unfoldable pub step_view : View → PublicCall → Shown
step_view v c = planned c (plan_at v c) v
