use mathlib.Core.Path.{◌≡◌}
use Prim.Native.Nat.{◌<◌}
use lib.ListN.{drop}
use Rattle.lab.specs.Numbers.{all_digits, is_number, decimal}
use Rattle.lab.proofs.clocks.read_clock.Given as goal

abbrev pub invariant-loop-b : goal.invariant-loop-b
invariant-loop-b l =
    (all_digits (drop l.b-index l.word) ≡ is_number l.word) × (decimal l.value (drop l.b-index l.word) ≡ decimal 0 l.word) × (l.value < 4294967296)
