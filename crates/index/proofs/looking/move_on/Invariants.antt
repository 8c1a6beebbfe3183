use mathlib.Core.Path.{◌≡◌}
use Prim.Native.Nat.{◌-◌, ◌≤◌, max}
use lib.ListN.{length}
use Rattle.index.specs.Looking.{passed}
use Rattle.index.proofs.looking.move_on.Given as goal

abbrev pub invariant-loop-i : goal.invariant-loop-i
invariant-loop-i l = (passed (l.n - l._i) l.version l.j l.at ≡ passed l.n l.version l.j l.initial.at) × (l.at ≤ max l.initial.at (length l.j))
