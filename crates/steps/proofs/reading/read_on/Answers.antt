use Rattle.std.proofs.Common.{◌≡◌, length}
use native.Mathlib.Omega.{arith}
use Rattle.ledger.specs.PublicCalls.{read}
use Rattle.ledger.proofs.SmallPlans.{small}
use Rattle.keeper.specs.Calls.{generator_read}
use Rattle.steps.proofs.Accepted.{so, in_pools, refused_other, ReadPlan, read_plan_lem}
use Rattle.steps.proofs.Strokes.{lent_as, spots, decided, read_untimed, refusal, read_done}
use borrow.Author.Rules.{rules}
use Rattle.steps.proofs.reading.read_on.Goals as goal

pub returns-in-Err : goal.returns-in-Err
returns-in-Err c = rw (c.refused.ensures.kept, c.refused.ensures.value) (refusal _ (generator_read _ _) _ _ (decided _ (read _ _) _ _ (read_untimed _ _) c.others_in_range-others.ensures c.in-Err.ensures.value) (refused_other c.in-Err.why))

pub new-input-requires : goal.new-input-requires
new-input-requires c = (omega arith, (omega arith, rw (spots _ _ _ _ _ c.in-Ok.ensures.value).input (in_pools _ _ _ _ _ c.in-Ok.ensures.value c.in-Ok.ensures.ok).input))

pub reseed-requires : goal.reseed-requires
reseed-requires c = (omega arith, rw c.in-Ok.ensures.value (small _ _ _ _).reseed)

pub generate-requires : goal.generate-requires
generate-requires c = (so (ReadPlan _) c.in-Ok.ensures.value (read_plan_lem _ _ _ _ _) c.in-Ok.ensures.ok).short

pub answer_of-requires : goal.answer_of-requires
answer_of-requires c = rw c.in-Ok.ensures.value (small _ _ _ _)

pub returns : goal.returns
returns c =
    let key : length c.args.k.now.generator ≡ 16 = search rules in
    rw c.answer_of.ensures
    (read_done _ _ c.args.out.now _ _ _ _ _ _ (decided _ (read _ _) _ _ (read_untimed _ _) c.others_in_range-others.ensures c.in-Ok.ensures.value) (so (ReadPlan _) c.in-Ok.ensures.value (read_plan_lem _ _ _ _ _) c.in-Ok.ensures.ok) key
    (lent_as _ _ _ _ _ c.new-input.ensures.words_value c.new-input.ensures.spot_value (spots _ _ _ _ _ c.in-Ok.ensures.value).input) c.reseed.ensures.pool_after c.reseed.ensures.g_after c.generate.ensures.out_after c.generate.ensures.g_after)
