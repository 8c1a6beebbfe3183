use Rattle.std.proofs.Common.{◌≡◌, ◌&&◌, drop}
use Rattle.ledger.specs.Range.{came_in_range, every}
use Rattle.reckon.proofs.range.counts_in_range.Given as goal

-- what was met so far and what is left give the whole
abbrev pub invariant-loop-n : goal.invariant-loop-n
invariant-loop-n l = (came_in_range l.most && every came_in_range (drop l.n-index l.came)) ≡ every came_in_range l.came
