use native.Mathlib.Omega.{arith}
use Rattle.ledger.specs.PublicCalls.{blocking_read}
use Rattle.ledger.proofs.SmallPlans.{small}
use Rattle.keeper.specs.Calls.{blocking_read_of}
use Rattle.steps.proofs.Accepted.{so, in_pools, refused_other, BlockingPlan, blocking_plan}
use Rattle.steps.proofs.Strokes.{lent_as, spots, decided, blocking_untimed, refusal, blocking_done}
use Rattle.steps.proofs.reading.blocking_read_on.Goals as goal

pub returns-in-Err : goal.returns-in-Err
returns-in-Err c = rw (c.refused.ensures.kept, c.refused.ensures.value) (refusal _ (blocking_read_of _) _ _ (decided _ (blocking_read _) _ _ (blocking_untimed _) c.others_in_range-others.ensures c.in-Err.ensures.value) (refused_other c.in-Err.why))

pub new-input-requires : goal.new-input-requires
new-input-requires c = (omega arith, (omega arith, rw (spots _ _ _ _ _ c.in-Ok.ensures.value).input (in_pools _ _ _ _ _ c.in-Ok.ensures.value c.in-Ok.ensures.ok).input))

pub new-blocking-requires : goal.new-blocking-requires
new-blocking-requires c = (omega arith, (omega arith, rw (spots _ _ _ _ _ c.in-Ok.ensures.value).blocking (in_pools _ _ _ _ _ c.in-Ok.ensures.value c.in-Ok.ensures.ok).blocking))

pub transfer-requires : goal.transfer-requires
transfer-requires c = (omega arith, (omega arith, rw c.in-Ok.ensures.value (small _ _ _ _).transfer))

pub deliver-requires : goal.deliver-requires
deliver-requires c = (omega arith, (so (BlockingPlan _) c.in-Ok.ensures.value (blocking_plan _ _ _ _) c.in-Ok.ensures.ok).fits)

pub answer_of-requires : goal.answer_of-requires
answer_of-requires c = rw c.in-Ok.ensures.value (small _ _ _ _)

pub returns : goal.returns
returns c = rw c.answer_of.ensures
    (blocking_done _ _ _ _ _ _ _ _ _ (decided _ (blocking_read _) _ _ (blocking_untimed _) c.others_in_range-others.ensures c.in-Ok.ensures.value) (so (BlockingPlan _) c.in-Ok.ensures.value (blocking_plan _ _ _ _) c.in-Ok.ensures.ok)
    (lent_as _ _ _ _ _ c.new-input.ensures.words_value c.new-input.ensures.spot_value (spots _ _ _ _ _ c.in-Ok.ensures.value).input)
    (lent_as _ _ _ _ _ c.new-blocking.ensures.words_value c.new-blocking.ensures.spot_value (spots _ _ _ _ _ c.in-Ok.ensures.value).blocking)
    c.transfer.ensures.from_after c.transfer.ensures.into_after c.deliver.ensures.pool_after c.deliver.ensures.out_after)
