use native.Mathlib.Omega.{arith}
use Rattle.lab.proofs.Digits.{zeros_least}
use Rattle.lab.proofs.numbers.zeros_before.Goals as goal

pub returns : goal.returns
returns c = (omega (arith, c.zeros.ensures, zeros_least c.args.word.now), omega arith)
