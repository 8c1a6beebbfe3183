use Rattle.std.proofs.Common.{◌≡◌}
use Rattle.words.specs.Words.{add}
use Rattle.words.proofs.Sums.{part}
use Rattle.words.proofs.adding.add_words.Given as goal

abbrev pub invariant-loop-i : goal.invariant-loop-i
invariant-loop-i g l = l.t ≡ part add l.i l.initial.t l.s
