use mathlib.Core.Path.{◌≡◌}
use mathlib.Core.List.{map}
use lib.ListN.{take}
use lib.Seq.{sets}
use Rattle.index.specs.Looking.{sought}
use Rattle.index.proofs.looking.find_all.Given as goal

abbrev pub invariant-loop-i : goal.invariant-loop-i
invariant-loop-i l = (l.answers ≡ sets l.initial.answers 0 (take l.i (map (λ m. (sought l.count l.places l.version l.j m).answer) l.numbers)))
    × (l.found ≡ sets l.initial.found 0 (take l.i (map (λ m. (sought l.count l.places l.version l.j m).place) l.numbers)))
