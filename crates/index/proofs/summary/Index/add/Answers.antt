use mathlib.Core.Path.{refl}
use Prim.Native.Nat.{◌%◌}
use native.Mathlib.Omega.{arith}
use borrow.Author.Tests.{eq-eqb, ne_eqb}
use Rattle.ledger.specs.Choice.{pick}
use Rattle.index.specs.Summary.{every, added}
use Rattle.index.proofs.Records.{one_of_six}
use Rattle.index.proofs.summary.Index.add.Goals.{then-count-eq0, else-count-eq0}
use Rattle.index.proofs.summary.Index.add.Goals as goal

pub overflow_sub-self : goal.overflow_sub-self
overflow_sub-self c = (one_of_six _ _ c.kind.ensures).0

pub bounds-self-kind : goal.bounds-self-kind
bounds-self-kind c = let six = one_of_six _ _ c.kind.ensures in
    omega (arith, six.0, six.1)

pub bounds-self-kind-2 : goal.bounds-self-kind-2
bounds-self-kind-2 c = let six = one_of_six _ _ c.kind.ensures in
    omega (arith, six.0, six.1)

pub returns : goal.returns
unfolding added pick
returns c next =
    elim c.if-count-eq0.branch [
      | then-count-eq0 w ↦ rw (w.self-is, c.kind.ensures, c.asks.ensures, eq-eqb (c.args.count % every) 0 w.if-count-eq0.true) refl
      | else-count-eq0 w ↦ rw (w.self-is, c.kind.ensures, c.asks.ensures, ne_eqb (c.args.count % every) 0 w.if-count-eq0.false) refl
    ]
