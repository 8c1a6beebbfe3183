use native.Mathlib.Omega.{arith}
use Rattle.lab.proofs.Digits.{counted, uncounted, below, above}
use Rattle.lab.proofs.numbers.count.Goals as goal

pub returns-in-48-to-57 : goal.returns-in-48-to-57
returns-in-48-to-57 c = counted c.args.b _ (omega (arith, c.from.ensures)) (omega arith) (omega arith)

pub returns-in_default : goal.returns-in_default
returns-in_default c = uncounted c.args.b (below c.args.b (omega arith))

pub returns-in_default-2 : goal.returns-in_default-2
returns-in_default-2 c = uncounted c.args.b (above c.args.b (omega arith))
