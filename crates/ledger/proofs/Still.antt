-- What does not move: a call that is not answered 0 changes nothing that is public, reports no work and adds nothing, no call delivers
-- more than was asked for, and a seeded keeper stays seeded.
use mathlib.Core.Path.{◌≡◌, refl}
use mathlib.Core.Bool.{Bool}
use Prim.Native.Nat.{ℕ, ◌+◌, ◌≤◌}
use native.Mathlib.Omega.{arith}
use lib.Dec.{ltb}
use borrow.Author.Tests.{ltb-false}
use Rattle.ledger.specs.Choice.{pick}
use Rattle.ledger.specs.Places.{moved, moved_blocks, extracted_from, costs}
use Rattle.ledger.specs.Timers.{timer_of}
use Rattle.ledger.specs.Range.{View, others_in_range}
use Rattle.ledger.specs.Marks.{seeding_at}
use Rattle.ledger.specs.PublicCalls.{PublicCall, event, interrupt, write, seed, read, blocking_read, asked, device_of}
use Rattle.ledger.specs.Plans.{idle, feed, transferred, refilled, plan_event, plan_interrupt, plan_write, plan_seed, plan_read, plan_blocking_read, plan_call, decide, bare}
use Rattle.ledger.specs.Machine.{Shown, input_moved, blocking_moved, planned, plan_at, step_view}
use Rattle.ledger.specs.declared.Ledger.{Ledger}
use Rattle.ledger.specs.declared.Plan.{Plan}
use Rattle.ledger.specs.declared.Seeding.{Seeding}
use Rattle.ledger.specs.declared.Timer.{Timer}
use Rattle.ledger.proofs.Picks.{pick_both, pick_by}
use Rattle.ledger.proofs.Crediting.{taken_wanted}

-- ---- refusals
-- a plan that answers 0, or does nothing
data Still (l : Ledger) (p : Plan) : Type 0 where
  answers : p.number ≡ 0 → Still l p
  rests : p ≡ idle p.number l → Still l p

-- each call has such a plan
plan_still : (l : Ledger) (t : Timer) (c : PublicCall) → Still l (plan_call l t c)
unfolding plan_call plan_event plan_interrupt plan_write plan_seed plan_read plan_blocking_read feed
plan_still l t (event device now value) = pick_both (Still l) _ (rests refl) (pick_both (Still l) _ (rests refl) (answers refl))
plan_still l t (interrupt now number) = pick_both (Still l) _ (answers refl) (answers refl)
plan_still l t (write len) = pick_both (Still l) _ (rests refl) (answers refl)
plan_still l t (seed now len credit) = pick_both (Still l) _ (rests refl) (pick_both (Still l) _ (rests refl) (answers refl))
plan_still l t (read now len) = pick_both (Still l) _ (rests refl) (pick_both (Still l) _ (rests refl) (pick_both (Still l) _ (rests refl) (answers refl)))
plan_still l t (blocking_read len) = pick_both (Still l) _ (rests refl) (pick_both (Still l) _ (rests refl) (pick_both (Still l) _ (rests refl) (answers refl)))

-- in range or not
decide-still : (others : Bool) (l : Ledger) (t : Timer) (c : PublicCall) → Still l (decide others l t c)
unfolding decide
decide-still others l t c = pick_both (Still l) _ (plan_still l t c) (rests refl)

-- an answer n that shows a view as it was, and no more than its number
abbrev pub unmoved : ℕ → View → Shown
unmoved n v = record { view = v; answer = bare n }

-- doing nothing shows the view as it was
idle_unmoved : (n : ℕ) (c : PublicCall) (v : View) → planned c (idle n v.ledger) v ≡ unmoved n v
unfolding planned input_moved blocking_moved moved moved_blocks extracted_from costs pick
idle_unmoved n c v = refl

-- a call that is not answered 0 shows the view as it was
pub refused : (v : View) (c : PublicCall) → ((step_view v c).answer.number ≡ 0 → ⊥) → step_view v c ≡ unmoved (step_view v c).answer.number v
unfolding step_view planned
refused v c h = go (decide-still (others_in_range v.timers v.fixed) v.ledger (timer_of v.timers (device_of c)) c)
  where
    go : Still v.ledger (plan_at v c) → planned c (plan_at v c) v ≡ unmoved (plan_at v c).number v
    go (answers e) = absurd (h e)
    go (rests e) = rw e (idle_unmoved _ c v)

-- ---- what is delivered
-- a plan that hands out n bytes at most, and 4,096 at most
record AtMost (n : ℕ) (p : Plan) : Type 0 where
  wanted : p.deliver + p.stream ≤ n
  limit : p.deliver + p.stream ≤ 4096

-- nothing done hands out nothing
none : (n k : ℕ) (l : Ledger) → AtMost n (idle k l)
none n k l = record { wanted = omega arith; limit = omega arith }

-- a generator read
read_asked : (now len : ℕ) (l : Ledger) → AtMost len (plan_read now len l)
unfolding plan_read
read_asked now len l =
    let P = AtMost len in
    pick_by P (ltb 4096 len) (λ h. none len 3 l) (λ h. let e = ltb-false 4096 len h in
    pick_both P _ (none len 0 l) (pick_both P _ (none len 2 l) (record { wanted = omega arith; limit = omega arith })))

-- a blocking read
blocking_asked : (n : ℕ) (l : Ledger) → AtMost n (plan_blocking_read n l)
unfolding plan_blocking_read
blocking_asked n l =
    let P = AtMost n in
    let w = taken_wanted n 0 (refilled (transferred n l) l).count in
    pick_by P (ltb 4096 n) (λ h. none n 3 l) (λ h. let e = ltb-false 4096 n h in
    pick_both P _ (none n 0 l) (pick_both P _ (none n 1 l) (record { wanted = omega (arith, w); limit = omega (arith, w) })))

-- each call
plan_asked : (l : Ledger) (t : Timer) (c : PublicCall) → AtMost (asked c) (plan_call l t c)
unfolding plan_call plan_event plan_interrupt plan_write plan_seed feed
plan_asked l t (event device now value) = pick_both (AtMost 0) _ (none 0 4 l) (pick_both (AtMost 0) _ (none 0 7 l) (record { wanted = omega arith; limit = omega arith }))
plan_asked l t (interrupt now number) = pick_both (AtMost 0) _ (record { wanted = omega arith; limit = omega arith }) (record { wanted = omega arith; limit = omega arith })
plan_asked l t (write len) = pick_both (AtMost 0) _ (none 0 3 l) (record { wanted = omega arith; limit = omega arith })
plan_asked l t (seed now len credit) = pick_both (AtMost 0) _ (none 0 3 l) (pick_both (AtMost 0) _ (none 0 5 l) (record { wanted = omega arith; limit = omega arith }))
plan_asked l t (read now len) = read_asked now len l
plan_asked l t (blocking_read len) = blocking_asked len l

-- no call delivers more than was asked for, nor more than 4,096 bytes
pub delivered_fits : (v : View) (c : PublicCall) → ((step_view v c).answer.delivered ≤ asked c) × ((step_view v c).answer.delivered ≤ 4096)
unfolding step_view planned decide
delivered_fits v c =
    let b = pick_both (AtMost (asked c)) _ (plan_asked v.ledger (timer_of v.timers (device_of c)) c) (none (asked c) 17 v.ledger) in
    (b.wanted, b.limit)

-- ---- seeded for good
-- a plan that leaves the ledger seeded
record Seeded (p : Plan) : Type 0 where
  seeded : p.ledger.seeding.mark ≡ 1

-- a mark that is set stays set under a choice of itself or set
kept : (t : Bool) (now : ℕ) (s : Seeding) → s.mark ≡ 1 → (pick t s (seeding_at now)).mark ≡ 1
kept t now s h = pick_both (λ (m : Seeding). m.mark ≡ 1) t h refl

-- each call leaves a seeded ledger seeded
plan_seeded : (l : Ledger) (t : Timer) (c : PublicCall) → l.seeding.mark ≡ 1 → Seeded (plan_call l t c)
unfolding plan_call plan_event plan_interrupt plan_write plan_seed plan_read plan_blocking_read feed
plan_seeded l t (event device now value) h = pick_both Seeded _ (record { seeded = h }) (pick_both Seeded _ (record { seeded = h }) (record { seeded = kept _ now l.seeding h }))
plan_seeded l t (interrupt now number) h = pick_both Seeded _ (record { seeded = h }) (record { seeded = kept _ now l.seeding h })
plan_seeded l t (write len) h = pick_both Seeded _ (record { seeded = h }) (record { seeded = h })
plan_seeded l t (seed now len credit) h = pick_both Seeded _ (record { seeded = h }) (pick_both Seeded _ (record { seeded = h }) (record { seeded = kept _ now l.seeding h }))
plan_seeded l t (read now len) h = pick_both Seeded _ (record { seeded = h }) (pick_both Seeded _ (record { seeded = h }) (pick_both Seeded _ (record { seeded = h }) (record { seeded = kept _ now l.seeding h })))
plan_seeded l t (blocking_read len) h = pick_both Seeded _ (record { seeded = h }) (pick_both Seeded _ (record { seeded = h }) (pick_both Seeded _ (record { seeded = h }) (record { seeded = h })))

-- a seeded keeper stays seeded
pub seeded_stays : (v : View) (c : PublicCall) → v.ledger.seeding.mark ≡ 1 → (step_view v c).view.ledger.seeding.mark ≡ 1
unfolding step_view planned decide
seeded_stays v c h =
    (pick_both Seeded _ (plan_seeded v.ledger (timer_of v.timers (device_of c)) c h) (record { seeded = h })).seeded
