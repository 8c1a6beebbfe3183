use native.Mathlib.Omega.{arith}
use Rattle.transcript.proofs.Writing.{decimal_is, adds_as}
use Rattle.transcript.proofs.text.Text.large.Goals as goal

pub returns-clause-put : goal.returns-clause-put
returns-clause-put c = adds_as (decimal_is 20 c.args.n (omega arith) (omega arith) (omega arith)) (rw (c.as_bytes.ensures.value, c.format.ensures.text) at c.letters.ensures)
