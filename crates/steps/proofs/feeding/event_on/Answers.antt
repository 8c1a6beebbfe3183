use mathlib.Core.List.{[]}
use native.Mathlib.Omega.{arith}
use Rattle.ledger.proofs.SmallPlans.{small}
use Rattle.keeper.specs.Calls.{device_event}
use Rattle.steps.proofs.Accepted.{so, in_pools, refused_other, EventPlan, event_plan}
use Rattle.steps.proofs.Strokes.{lent_as, spots, event_decided, refusal, event-done}
use Rattle.steps.proofs.feeding.event_on.Goals as goal

pub returns-in-Err : goal.returns-in-Err
returns-in-Err c = rw (c.refused.ensures.kept, c.refused.ensures.value) (refusal _ (device_event _ _ _ _) [] _ (event_decided _ _ _ _ _ _ _ c.others_in_range-others.ensures c.device_timer-t.ensures c.in-Err.ensures.value) (refused_other c.in-Err.why))

pub keep_timer-requires : goal.keep_timer-requires
keep_timer-requires c = (so (EventPlan _) c.in-Ok.ensures.value (event_plan _ _ _ _ _ _) c.in-Ok.ensures.ok).device_small

pub new-input-requires : goal.new-input-requires
new-input-requires c = (omega arith, (omega arith, rw (spots _ _ _ _ _ c.in-Ok.ensures.value).input (in_pools _ _ _ _ _ c.in-Ok.ensures.value c.in-Ok.ensures.ok).input))

pub reseed-requires : goal.reseed-requires
reseed-requires c = (omega arith, rw c.in-Ok.ensures.value (small _ _ _ _).reseed)

pub answer_of-requires : goal.answer_of-requires
answer_of-requires c = rw c.in-Ok.ensures.value (small _ _ _ _)

pub returns : goal.returns
returns c = rw c.answer_of.ensures
    (event-done _ _ _ _ _ _ _ _ _ _ _ (event_decided _ _ _ _ _ _ _ c.others_in_range-others.ensures c.device_timer-t.ensures c.in-Ok.ensures.value) (so (EventPlan _) c.in-Ok.ensures.value (event_plan _ _ _ _ _ _) c.in-Ok.ensures.ok) c.keep_timer.ensures
    (lent_as _ _ _ _ _ c.new-input.ensures.words_value c.new-input.ensures.spot_value (spots _ _ _ _ _ c.in-Ok.ensures.value).input) c.feed_event.ensures.pool_after c.reseed.ensures.pool_after c.reseed.ensures.g_after)
