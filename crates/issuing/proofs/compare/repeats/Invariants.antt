use mathlib.Core.Path.{◌≡◌}
use mathlib.Core.Bool.{◌||◌}
use lib.ListN.{take}
use Rattle.desk.specs.Desks.{among}
use Rattle.issuing.proofs.compare.repeats.Given as goal

-- what was met, or is among those that are left, is among all
abbrev pub invariant-loop-i : goal.invariant-loop-i
invariant-loop-i l = (l.met || among l.number (take l.i l.places)) ≡ among l.number (take l.desk.count l.places)
