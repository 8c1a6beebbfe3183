use native.Mathlib.Omega.{arith}
use Rattle.index.specs.Filing.{used}
use Rattle.index.proofs.filing.places_used.Goals as goal

pub returns : goal.returns
unfolding used
returns c = (omega (arith, c.records.ensures.value, c.min.ensures), omega (arith, c.min.ensures))
