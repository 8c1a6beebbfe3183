use mathlib.Core.Path.{refl}
use native.Mathlib.Omega.{arith}
use borrow.Author.Tests.{lt-ltb, le-ltb}
use Rattle.ledger.specs.Choice.{pick}
use Rattle.lab.specs.Numbers.{onward}
use Rattle.lab.proofs.numbers.longer.Goals as goal

pub returns-then-value-lt-ENOUGH : goal.returns-then-value-lt-ENOUGH
unfolding onward pick
returns-then-value-lt-ENOUGH c = (rw (lt-ltb c.args.value 100000 c.if-value-lt-ENOUGH.true) (omega arith), omega arith)

pub returns-else-value-lt-ENOUGH : goal.returns-else-value-lt-ENOUGH
unfolding onward pick
returns-else-value-lt-ENOUGH c = (rw (le-ltb c.args.value 100000 c.if-value-lt-ENOUGH.false) refl, omega arith)
