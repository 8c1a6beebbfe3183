use Prim.Native.Nat.{◌-◌}
use lib.ListN.{length}
use Rattle.convert.proofs.Passing.{Going}
use Rattle.convert.proofs.judging.judge.Given as goal

abbrev pub invariant-loop-it : goal.invariant-loop-it
invariant-loop-it l = Going l.version l.j l.from l.at l.strange l.events

abbrev pub decreases-loop-it : goal.decreases-loop-it
decreases-loop-it l = length l.j - l.at
