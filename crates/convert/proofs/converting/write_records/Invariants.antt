use Prim.Native.Nat.{◌-◌}
use lib.ListN.{length}
use Rattle.convert.proofs.Laid.{Left}
use Rattle.convert.proofs.converting.write_records.Given as goal

abbrev pub invariant-loop-it : goal.invariant-loop-it
invariant-loop-it l = Left l.j l.initial.room l.room l.from l.to l.at l.place

abbrev pub decreases-loop-it : goal.decreases-loop-it
decreases-loop-it l = length l.j - l.at
