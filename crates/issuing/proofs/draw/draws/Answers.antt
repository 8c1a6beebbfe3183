use mathlib.Core.Path.{ap, ◌∙◌}
use mathlib.Core.Bool.{true, false}
use native.Mathlib.Omega.{arith}
use Rattle.desk.specs.declared.Desk.{Desk}
use Rattle.desk.specs.Desks.{appended}
use Rattle.issuing.proofs.Streams.{again, issues, no_more, at_start}
use Rattle.issuing.proofs.draw.draws.Goals as goal

pub returns-then-not-repeats-clause-value : goal.returns-then-not-repeats-clause-value
returns-then-not-repeats-clause-value c = let new = at_start _ c.args.desk.now _ _ false c.loop-repeated.invariant.0 c.repeats.ensures c.if-not-repeats.true in
    rw c.handed.ensures
    (issues _ _ c.loop-repeated.repeated _ _ _ _ c.draw-number.ensures.value c.draw-number.ensures.generator_after _ (omega arith) c.loop-repeated.invariant.1 new _
    (c.remember.ensures ∙ ap (λ (d : Desk). appended c.draw-number.result d) c.loop-repeated.invariant.0))

pub loop-repeated-preserved : goal.loop-repeated-preserved
loop-repeated-preserved c = let old = at_start _ c.args.desk.now _ _ true c.loop-repeated.invariant.0 c.repeats.ensures c.if-not-repeats.false in (
  c.loop-repeated.invariant.0,
  again _ _ c.loop-repeated.repeated _ _ _ _ c.draw-number.ensures.value c.draw-number.ensures.generator_after _ (omega arith) c.loop-repeated.invariant.1 old,
)

pub returns-clause-value : goal.returns-clause-value
returns-clause-value c = rw (c.no_number.ensures, c.loop-repeated.invariant.0) (no_more _ _ c.loop-repeated.repeated _ _ _ (omega arith) c.loop-repeated.invariant.1)
