use Rattle.std.proofs.Common.{arith, length-take-le}
use Rattle.generator.proofs.Laying.{over_front}
use Rattle.generator.proofs.reading.lay_whole.Goals as goal

pub copy_from_slice-requires : goal.copy_from_slice-requires
copy_from_slice-requires c = omega (arith, length-take-le 64 c.args.out.now (omega arith))

pub returns-then-out-ge64 : goal.returns-then-out-ge64
returns-then-out-ge64 c = over_front 64 c.args.out.now c.args.block.now _ c.copy_from_slice.ensures.after (omega arith) (omega arith)
