use mathlib.Core.Path.{refl}
use Rattle.steps.proofs.making.fresh_keeper.Goals as goal

pub returns : goal.returns
returns c = rw c.fresh_ledger.ensures refl
