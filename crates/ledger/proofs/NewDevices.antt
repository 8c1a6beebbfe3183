-- New devices earn nothing at first: from a fresh keeper on, whatever the calls, an event earns by the clocks of its device's kept events
-- and by nothing else. The first three earn nothing; after that all three differences are between real events, so the clock 0 of a fresh
-- timer enters no credit.
use mathlib.Core.Path.{◌≡◌, refl, ◌∙◌, ap}
use mathlib.Core.Bool.{Bool, false}
use mathlib.Core.List.{List, [], ◌∷◌, reverse}
use Prim.Native.Nat.{ℕ, ◌<◌, min}
use native.Mathlib.Omega.{arith}
use lib.ListN.{length}
use Rattle.ledger.specs.Choice.{pick}
use Rattle.ledger.specs.Sizes.{devices, events_before}
use Rattle.ledger.specs.Places.{costs}
use Rattle.ledger.specs.Credits.{credited}
use Rattle.ledger.specs.Clocks.{event_bits}
use Rattle.ledger.specs.Timers.{timer_of}
use Rattle.ledger.specs.Marks.{valued}
use Rattle.ledger.specs.Range.{others_in_range}
use Rattle.ledger.specs.PublicCalls.{PublicCall, event}
use Rattle.ledger.specs.Plans.{idle, first_seeding, feed, keeping, compressions_run, plan_event, plan_call, decide}
use Rattle.ledger.specs.Machine.{fresh_view, planned, step_view}
use Rattle.ledger.specs.Earned.{kept_clocks, earned, EarnsNothing}
use Rattle.ledger.specs.declared.Ledger.{Ledger}
use Rattle.ledger.specs.declared.Plan.{Plan}
use Rattle.ledger.specs.declared.Timer.{Timer}
use Rattle.ledger.proofs.Picks.{pick_both}
use Rattle.ledger.proofs.InRange.{view_after}
use Rattle.ledger.proofs.KeptTimers.{timer_by}
use Rattle.ledger.proofs.CallsAlone.{timer_by_clocks}

-- ---- what is earned
-- kept events are counted up to three
pub came_counts : (before : List ℕ) → (timer_by before).came ≡ min events_before (length before)
unfolding timer_by
came_counts [] = refl
came_counts (now ∷ before) = let e = came_counts before in omega arith

three_came : (a b c : ℕ) (older : List ℕ) → (timer_by (a ∷ b ∷ c ∷ older)).came ≡ events_before
three_came a b c older = let e = came_counts (a ∷ b ∷ c ∷ older) in omega arith

-- by the clocks: nothing before three, and then by four clocks that were told
pub earned_by : (now : ℕ) (before : List ℕ) → event_bits now (timer_by before) ≡ earned now before
unfolding event_bits timer_by earned pick
earned_by now [] = refl
earned_by now (a ∷ []) = refl
earned_by now (a ∷ b ∷ []) = refl
earned_by now (a ∷ b ∷ c ∷ older) = rw (three_came a b c older) refl

-- an event earns by the clocks of its device's kept events and by nothing else
pub earned_by_clocks : (device now : ℕ) (cs : List PublicCall) → device < devices → event_bits now (timer_of (view_after fresh_view cs).timers device) ≡ earned now (kept_clocks device (reverse cs))
earned_by_clocks device now cs h = ap (event_bits now) (timer_by_clocks device cs h) ∙ earned_by now (kept_clocks device (reverse cs))

-- ---- a device's first three kept events
-- a plan that leaves the counts and the seeding, works nothing and adds nothing
record Unpaid (l : Ledger) (p : Plan) : Type 0 where
  input : p.ledger.input.count ≡ l.input.count
  blocking : p.ledger.blocking.count ≡ l.blocking.count
  seeding : p.ledger.seeding ≡ l.seeding
  compressions : compressions_run p ≡ 0
  added : p.added ≡ 0

idle_unpaid : (n : ℕ) (l : Ledger) → Unpaid l (idle n l)
unfolding costs
idle_unpaid n l = record { input = refl; blocking = refl; seeding = refl; compressions = refl; added = refl }

-- a credit of 0 bits
feed_unpaid : (d now value n : ℕ) (t : Timer) (l : Ledger) → n ≡ 0 → Unpaid l (keeping t (feed now false n (valued d value l)))
unfolding feed first_seeding credited costs pick
feed_unpaid d now value n t l e = rw e (record { input = omega arith; blocking = refl; seeding = refl; compressions = refl; added = omega arith })

-- an event that earns 0 bits
event_unpaid : (others : Bool) (l : Ledger) (t : Timer) (d now value : ℕ) → event_bits now t ≡ 0 → Unpaid l (decide others l t (event d now value))
unfolding decide plan_call plan_event
event_unpaid others l t d now value e =
    let P = Unpaid l in
    pick_both P _ (pick_both P _ (idle_unpaid 4 l) (pick_both P _ (idle_unpaid 7 l) (feed_unpaid d now value _ _ l e))) (idle_unpaid 17 l)

-- nothing is earned by fewer than three clocks
few : (now : ℕ) (before : List ℕ) → length before < events_before → earned now before ≡ 0
unfolding earned
few now [] h = refl
few now (a ∷ []) h = refl
few now (a ∷ b ∷ []) h = refl
few now (a ∷ b ∷ c ∷ older) h = absurd (omega arith)

-- from a fresh keeper on, whatever the calls: an event before which fewer than three of its device were kept earns nothing
pub nothing_at_first : (device now value : ℕ) (cs : List PublicCall) → device < devices → length (kept_clocks device (reverse cs)) < events_before
    → let v = view_after fresh_view cs in
    let s = step_view v (event device now value) in
    EarnsNothing v.ledger s.view.ledger s.answer
unfolding step_view planned
nothing_at_first device now value cs h k =
    let v = view_after fresh_view cs in
    let e = earned_by_clocks device now cs h ∙ few now (kept_clocks device (reverse cs)) k in
    let u = event_unpaid (others_in_range v.timers v.fixed) v.ledger (timer_of v.timers device) device now value e in
    record { input = u.input; blocking = u.blocking; seeding = u.seeding; compressions = u.compressions; added = u.added }
