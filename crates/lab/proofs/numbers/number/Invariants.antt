use mathlib.Core.Path.{◌≡◌}
use Prim.Native.Nat.{◌<◌}
use lib.ListN.{drop}
use Rattle.lab.specs.Numbers.{all_digits, is_number, onward}
use Rattle.lab.proofs.numbers.number.Given as goal

abbrev pub invariant-loop-b : goal.invariant-loop-b
invariant-loop-b l =
    (all_digits (drop l.b-index l.word) ≡ is_number l.word) × (onward l.value (drop l.b-index l.word) ≡ onward 0 l.word) × (l.value < 1000000)
