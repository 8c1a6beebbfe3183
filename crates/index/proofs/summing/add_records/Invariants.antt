use Prim.Native.Nat.{◌-◌}
use lib.ListN.{length}
use Rattle.index.proofs.Going.{Going}
use Rattle.index.proofs.summing.add_records.Given as goal

abbrev pub invariant-loop-it : goal.invariant-loop-it
invariant-loop-it l = Going l.version l.j l.from l.base l.count l.initial.index l.index l.at l.many

abbrev pub decreases-loop-it : goal.decreases-loop-it
decreases-loop-it l = length l.j - l.at
