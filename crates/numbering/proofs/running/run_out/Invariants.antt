use Rattle.std.proofs.Common.{◌≡◌, ◌-◌, length}
use Rattle.numbering.specs.Running.{ran_from}
use Rattle.numbering.proofs.running.run_out.Given as goal

abbrev pub invariant-loop-next : goal.invariant-loop-next
invariant-loop-next l = ran_from l.version l.j l.place l.k ≡ ran_from l.version l.j l.at l.initial.k

abbrev pub decreases-loop-next : goal.decreases-loop-next
decreases-loop-next l = length l.j - l.place
