use Rattle.std.proofs.Common.{refl, ap, ◌∙◌, add-one}
use Rattle.chacha.specs.Chacha.{rounds, inner_block}
use Rattle.chacha.proofs.blocks.rounds.Goals as goal

pub loop-init : goal.loop-init
unfolding rounds
loop-init c = refl

pub loop-preserved : goal.loop-preserved
unfolding rounds
loop-preserved c = rw add-one (c.inner_block-u.ensures ∙ ap inner_block c.loop.invariant)
