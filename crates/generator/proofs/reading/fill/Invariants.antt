use Rattle.std.proofs.Common.{◌≡◌, length}
use Rattle.generator.proofs.Laying.{Filled}
use Rattle.generator.proofs.reading.fill.Given as goal

abbrev pub invariant-loop-n : goal.invariant-loop-n
invariant-loop-n l = (length l.out ≡ length l.initial.out) × (length l.g ≡ 16) × Filled l.initial.g l.initial.out l.out l.g l.n
