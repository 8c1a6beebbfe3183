use mathlib.Core.Path.{◌∙◌}
use Rattle.index.proofs.Alike.{derived}
use Rattle.index.proofs.at_hand.IndexKept.is.Goals as goal

pub returns : goal.returns
returns c = c.eq.ensures ∙ derived c.args.self.now c.args.it.now
