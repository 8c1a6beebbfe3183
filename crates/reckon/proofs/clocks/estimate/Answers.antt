use Rattle.std.proofs.Common.{arith}
use Rattle.reckon.proofs.Estimates.{log2_is, estimate_is}
use Rattle.reckon.proofs.clocks.estimate.Goals as goal

pub returns-else-m-eq0-clause-value : goal.returns-else-m-eq0-clause-value
returns-else-m-eq0-clause-value c =
    let e = c.ilog2.result in
    omega (arith, log2_is 64 c.args.m e (omega arith) c.ilog2.ensures.power_le (omega arith), estimate_is c.args.m (omega arith))
