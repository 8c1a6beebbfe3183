use native.Mathlib.Omega.{arith}
use Rattle.nk.proofs.Texts.{few_texts}
use Rattle.nk.proofs.replaying.hand_over.Goals as goal

pub overflow_add-done : goal.overflow_add-done
overflow_add-done g c = omega (arith, c.requires.left, few_texts c.args.j.now)
