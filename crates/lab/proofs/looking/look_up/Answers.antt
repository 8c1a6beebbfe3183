use mathlib.Core.Path.{sym, ◌∙◌}
use native.Mathlib.Omega.{arith}
use Rattle.index.proofs.Kept.{few_numbers}
use Rattle.lab.proofs.looking.look_up.Goals as goal

pub tell_all-requires : goal.tell_all-requires
tell_all-requires g c = omega (arith, few_numbers _ _ _ _ (sym c.look_filed-refused.ensures.value ∙ c.if-refused-ne-DONE.false), c.requires)
