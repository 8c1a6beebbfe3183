use mathlib.Core.Path.{◌≡◌}
use Prim.Native.Nat.{◌-◌}
use lib.ListN.{length}
use Rattle.journal.specs.Walking.{walk, ending_of}
use Rattle.journal.proofs.ending.scan.Given as goal

abbrev pub invariant-loop-next : goal.invariant-loop-next
invariant-loop-next l = (walk l.h.version l.j l.at).number ≡ ending_of l.j

abbrev pub decreases-loop-next : goal.decreases-loop-next
decreases-loop-next l = length l.j - l.at
