use mathlib.Core.Path.{refl}
use native.Mathlib.Omega.{arith}
use borrow.Author.Tests.{lt-ltb, le-ltb}
use Rattle.ledger.specs.Choice.{pick}
use Rattle.index.specs.Looking.{sought}
use Rattle.index.proofs.looking.find.Goals as goal

pub returns-then-n-count : goal.returns-then-n-count
unfolding sought pick
returns-then-n-count c = rw (le-ltb c.args.number c.args.count (omega arith)) (refl, refl)

pub returns : goal.returns
unfolding sought pick
returns c = rw (lt-ltb c.args.number c.args.count (omega arith)) (refl, c.pass-at.ensures.value)
