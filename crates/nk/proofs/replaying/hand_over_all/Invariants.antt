use Rattle.std.proofs.Common.{◌≡◌, ◌-◌, length}
use Rattle.journal.specs.Header.{version_of}
use Rattle.nk.proofs.Texts.{Told}
use Rattle.nk.proofs.replaying.hand_over_all.Given as goal

abbrev pub invariant-loop-reader : goal.invariant-loop-reader
invariant-loop-reader g l = (l.h.version ≡ version_of l.j) × Told l.j l.done l.at l.k

abbrev pub decreases-loop-reader : goal.decreases-loop-reader
decreases-loop-reader g l = length l.j - l.at
