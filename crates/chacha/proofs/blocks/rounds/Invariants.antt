use Rattle.std.proofs.Common.{◌≡◌}
use Rattle.chacha.specs.Chacha.{rounds}
use Rattle.chacha.proofs.blocks.rounds.Given as goal

abbrev pub invariant-loop : goal.invariant-loop
invariant-loop l = l.t ≡ rounds l.counter l.initial.t
