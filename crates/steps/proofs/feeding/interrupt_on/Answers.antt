use mathlib.Core.List.{[]}
use native.Mathlib.Omega.{arith}
use Rattle.ledger.specs.PublicCalls.{interrupt}
use Rattle.ledger.proofs.SmallPlans.{small}
use Rattle.keeper.specs.Calls.{interrupted}
use Rattle.steps.proofs.Accepted.{so, in_pools, refused_other, InterruptPlan, interrupt_plan}
use Rattle.steps.proofs.Strokes.{lent_as, spots, decided, interrupt_untimed, refusal, interrupt-stays, interrupt-done}
use borrow.Author.Tests.{not-true, not-false}
use Rattle.steps.proofs.feeding.interrupt_on.Goals as goal

pub returns-in-Err : goal.returns-in-Err
returns-in-Err c = rw (c.refused.ensures.kept, c.refused.ensures.value) (refusal _ (interrupted _ _ _ _) [] _ (decided _ (interrupt _ _) _ _ (interrupt_untimed _ _) c.others_in_range-others.ensures c.in-Err.ensures.value) (refused_other c.in-Err.why))

pub answer_of-requires : goal.answer_of-requires
answer_of-requires c = rw c.in-Ok.ensures.value (small _ _ _ _)

-- it only stirs

pub returns-then-not-p : goal.returns-then-not-p
returns-then-not-p c = rw c.answer_of.ensures (interrupt-stays _ _ _ _ _ _ _ (decided _ (interrupt _ _) _ _ (interrupt_untimed _ _) c.others_in_range-others.ensures c.in-Ok.ensures.value) (so (InterruptPlan) c.in-Ok.ensures.value (interrupt_plan _ _ _ _ _) c.in-Ok.ensures.ok) (not-true _ c.if-not-p.true) c.stir.ensures)

pub new-input-requires : goal.new-input-requires
new-input-requires c = (omega arith, (omega arith, rw (spots _ _ _ _ _ c.in-Ok.ensures.value).input (in_pools _ _ _ _ _ c.in-Ok.ensures.value c.in-Ok.ensures.ok).input))

pub reseed-requires : goal.reseed-requires
reseed-requires c = (omega arith, rw c.in-Ok.ensures.value (small _ _ _ _).reseed)

pub answer_of-requires-2 : goal.answer_of-requires-2
answer_of-requires-2 c = rw c.in-Ok.ensures.value (small _ _ _ _)

-- it spills

pub returns : goal.returns
returns c = rw c.answer_of-2.ensures
    (interrupt-done _ _ _ _ _ _ _ _ _ _ _ (decided _ (interrupt _ _) _ _ (interrupt_untimed _ _) c.others_in_range-others.ensures c.in-Ok.ensures.value) (so (InterruptPlan) c.in-Ok.ensures.value (interrupt_plan _ _ _ _ _) c.in-Ok.ensures.ok) (not-false _ c.if-not-p.false) c.stir.ensures
    (lent_as _ _ _ _ _ c.new-input.ensures.words_value c.new-input.ensures.spot_value (spots _ _ _ _ _ c.in-Ok.ensures.value).input) c.spill.ensures.pool_after c.reseed.ensures.pool_after c.reseed.ensures.g_after)
