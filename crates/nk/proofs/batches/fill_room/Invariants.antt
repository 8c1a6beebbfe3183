use Rattle.std.proofs.Common.{◌-◌, length}
use Rattle.nk.proofs.Filling.{Filling}
use Rattle.nk.proofs.batches.fill_room.Given as goal

abbrev pub invariant-loop-next : goal.invariant-loop-next
invariant-loop-next l = Filling l.version l.j l.at l.initial.k l.initial.room l.place l.k l.count l.room l.line

abbrev pub decreases-loop-next : goal.decreases-loop-next
decreases-loop-next l = length l.j - l.place
