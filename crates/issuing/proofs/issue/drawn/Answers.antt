use mathlib.Core.Path.{◌≡◌, refl, ap, ◌∙◌}
use mathlib.Core.Bool.{not}
use native.Mathlib.Omega.{arith}
use lib.ListN.{length}
use Rattle.std.proofs.Common.{Err}
use Rattle.ledger.specs.declared.refusals.Refusal.TheVariants.{NoSuchClass}
use Rattle.ledger.specs.PublicCalls.{read}
use Rattle.ledger.proofs.SmallPlans.{small}
use Rattle.steps.proofs.Accepted.{so, in_pools, refused_other, ReadPlan, read_plan_lem}
use Rattle.steps.proofs.Strokes.{lent_as, spots, decided, read_untimed}
use Rattle.issuing.proofs.Passes.{byte_other}
use Rattle.issuing.proofs.Strokes.{counted, out, no_class, keeper_says, handed-over, draws_on}
use borrow.Author.Rules.{rules}
use Rattle.issuing.proofs.issue.drawn.Goals as goal

pub returns-then-not-in_range-clause-value : goal.returns-then-not-in_range-clause-value
returns-then-not-in_range-clause-value c = out _ _ _ _ _ _ c.others_in_range-others.ensures c.in_range.ensures (ap not c.if-not-in_range.true)

pub returns-in_err-class-clause-value : goal.returns-in_err-class-clause-value
returns-in_err-class-clause-value c =
    let e : c.from_residual.result ≡ Err NoSuchClass = search rules in
    rw e (no_class _ _ _ _ _ _ c.others_in_range-others.ensures c.in_range.ensures (ap not c.if-not-in_range.false) _ refl c.in_err-class.ensures.0)

pub returns-in_err-p-clause-value : goal.returns-in_err-p-clause-value
returns-in_err-p-clause-value c =
    let e : c.from_residual-in_err-p.result ≡ Err c.in_err-p.field-0.0 = search rules in
    let others = c.others_in_range-others.ensures in
    let named = c.in_ok-class.ensures in
    rw e
    (keeper_says _ _ _ _ _ _ others c.in_range.ensures (ap not c.if-not-in_range.false) _ named (byte_other c.in_ok-class.class) _ (decided _ (read _ _) _ _ (read_untimed _ _) others c.in_err-p.ensures.value) (refused_other c.in_err-p.field-0.0))

pub new-input-requires : goal.new-input-requires
new-input-requires c = (omega arith, (omega arith, rw (spots _ _ _ _ _ c.in_ok-p.ensures.value).input (in_pools _ _ _ _ _ c.in_ok-p.ensures.value c.in_ok-p.ensures.ok).input))

pub reseed-requires : goal.reseed-requires
reseed-requires c = (omega arith, rw c.in_ok-p.ensures.value (small _ _ _ _).reseed)

pub answer_of-a-requires : goal.answer_of-a-requires
answer_of-a-requires c = rw c.in_ok-p.ensures.value (small _ _ _ _)

pub draws-requires : goal.draws-requires
draws-requires c = counted _ _ _ _ c.in_range.ensures (ap not c.if-not-in_range.false)

pub returns-clause-value : goal.returns-clause-value
returns-clause-value c =
    let key : length c.args.k.now.generator ≡ 16 = search rules in
    let others = c.others_in_range-others.ensures in
    handed-over c.args.k.now _ _ _ _ _ (decided _ (read _ _) _ _ (read_untimed _ _) others c.in_ok-p.ensures.value) (so (ReadPlan 15) c.in_ok-p.ensures.value (read_plan_lem _ _ _ _ _) c.in_ok-p.ensures.ok) c.in_ok-p.ensures.ok key
    (lent_as _ _ _ _ _ c.new-input.ensures.words_value c.new-input.ensures.spot_value (spots _ _ _ _ _ c.in_ok-p.ensures.value).input) c.reseed.ensures.pool_after c.reseed.ensures.g_after
    _ c.args.desk.now _ c.answer_of-a.ensures _ _ _ c.draws.ensures.value
    ∙ draws_on c.args.k.now c.args.desk.now _ c.args.field.now _ _ others c.in_range.ensures (ap not c.if-not-in_range.false) _ c.in_ok-class.ensures (byte_other c.in_ok-class.class)
