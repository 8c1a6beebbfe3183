-- Every plan is small: how many bytes it takes for a reseed, brings over, delivers and streams at most.
use mathlib.Core.Bool.{Bool, true, false}
use Prim.Native.Nat.{ℕ, ◌≤◌, min, max}
use native.Mathlib.Omega.{arith}
use lib.Dec.{ltb}
use borrow.Author.Tests.{ltb-false}
use Rattle.ledger.specs.Choice.{pick}
use Rattle.ledger.specs.Sizes.{longest}
use Rattle.ledger.specs.Credits.{reseed_takes}
use Rattle.ledger.specs.PublicCalls.{PublicCall, event, interrupt, write, seed, read, blocking_read}
use Rattle.ledger.specs.Plans.{Small, idle, first_seeding, feed, transferred, refilled, plan_event, plan_interrupt, plan_write, plan_seed, plan_read, plan_blocking_read, plan_call, decide}
use Rattle.ledger.specs.declared.Ledger.{Ledger}
use Rattle.ledger.specs.declared.Timer.{Timer}
use Rattle.ledger.proofs.Picks.{pick_both, pick_by}
use Rattle.ledger.proofs.Crediting.{taken_wanted}

none : (n : ℕ) (l : Ledger) → Small (idle n l)
none n l = record { reseed = omega arith; transfer = omega arith; deliver = omega arith; stream = omega arith }

reseeds_few : (t : Bool) (count : ℕ) → pick t (reseed_takes count) 0 ≤ 32
reseeds_few t count = pick_both (λ (n : ℕ). n ≤ 32) t (taken_wanted 32 16 count) (omega arith)

feed_small : (now : ℕ) (stirs : Bool) (n : ℕ) (l : Ledger) → Small (feed now stirs n l)
unfolding feed first_seeding
feed_small now stirs n l = record { reseed = reseeds_few _ _; transfer = omega arith; deliver = omega arith; stream = omega arith }

transfer-few : (n : ℕ) (l : Ledger) → transferred n l ≤ 128
transfer-few n l =
    let w = taken_wanted (min (max n 8) 128) 8 l.input.count in
    pick_both (λ (t : ℕ). t ≤ 128) _ (omega (arith, w)) (omega arith)

call_small : (l : Ledger) (t : Timer) (c : PublicCall) → Small (plan_call l t c)
unfolding plan_call plan_event plan_interrupt plan_write plan_seed plan_read plan_blocking_read
call_small l t (event device now value) =
    let f = feed_small now false _ _ in
    pick_both Small _ (none 4 l) (pick_both Small _ (none 7 l) (record { reseed = f.reseed; transfer = f.transfer; deliver = f.deliver; stream = f.stream }))
call_small l t (interrupt now number) =
    pick_both Small _ (record { reseed = omega arith; transfer = omega arith; deliver = omega arith; stream = omega arith }) (feed_small now true 1 _)
call_small l t (write len) =
    pick_both Small _ (none 3 l) (record { reseed = omega arith; transfer = omega arith; deliver = omega arith; stream = omega arith })
call_small l t (seed now len credit) = pick_both Small _ (none 3 l) (pick_both Small _ (none 5 l) (feed_small now false credit l))
call_small l t (read now len) =
    pick_by Small (ltb longest len) (λ h. none 3 l) (λ h. let e = ltb-false longest len h in
    pick_both Small _ (none 0 l) (pick_both Small _ (none 2 l)
    (record { reseed = reseeds_few _ _; transfer = omega arith; deliver = omega arith; stream = e })))
call_small l t (blocking_read n) =
    pick_by Small (ltb longest n) (λ h. none 3 l) (λ h. let e = ltb-false longest n h in
    pick_both Small _ (none 0 l) (pick_both Small _ (none 1 l)
    (record { reseed = omega arith; transfer = transfer-few n l; deliver = omega (arith, taken_wanted n 0 (refilled (transferred n l) l).count); stream = omega arith })))

pub small : (others : Bool) (l : Ledger) (t : Timer) (c : PublicCall) → Small (decide others l t c)
unfolding decide
small others l t c = pick_both Small _ (call_small l t c) (none 17 l)
