use Rattle.std.proofs.Common.{◌≡◌, ◌&&◌}
use Rattle.ledger.specs.Range.{first_in_range, second_in_range, every}
use Rattle.reckon.proofs.Tested.{Whole}
use Rattle.reckon.proofs.range.runs_in_range.Given as goal

-- what was met so far and what is left give the whole, of the first differences and of the second ones
abbrev pub invariant-loop-i : goal.invariant-loop-i
invariant-loop-i l =
    (Whole 32 first_in_range l.firsts l.firsts2 l.i l.met ≡ (every first_in_range l.firsts && every first_in_range l.firsts2))
    × (Whole 33 second_in_range l.seconds l.seconds2 l.i l.met2 ≡ (every second_in_range l.seconds && every second_in_range l.seconds2))
