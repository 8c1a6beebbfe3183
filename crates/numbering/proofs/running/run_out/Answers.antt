use mathlib.Core.Path.{refl, ◌∙◌}
use native.Mathlib.Omega.{arith}
use Rattle.numbering.proofs.TurnByTurn.{goes_on, again, over}
use Rattle.numbering.proofs.running.run_out.Goals as goal

pub loop-next-smaller : goal.loop-next-smaller
loop-next-smaller c = let h = goes_on _ _ _ _ _ _ _ _ _ _ (rw c.in-Some.is at c.take_turn.ensures) refl in
    omega arith

pub loop-next-preserved : goal.loop-next-preserved
loop-next-preserved c = again _ _ _ _ _ _ _ _ _ _ (rw c.in-Some.is at c.take_turn.ensures) refl ∙ c.loop-next.invariant

pub returns : goal.returns
returns c = over _ _ _ _ _ _ _ _ _ _ (rw c.in_default.is at c.take_turn.ensures) refl ∙ c.loop-next.invariant
