use mathlib.Core.Path.{refl}
use Rattle.journal.proofs.Refused.{not_0}
use Rattle.numbering.proofs.TurnByTurn.{not_begun, run_whole}
use Rattle.numbering.proofs.running.replay_on.Goals as goal

pub returns-in_default : goal.returns-in_default
returns-in_default c = not_begun _ _ _ c.in_default.ensures (not_0 c.in_default.field-0)

pub returns : goal.returns
returns c = run_whole _ _ _ _ _ _ c.in-Ok.ensures refl c.payload.ensures c.make_on.ensures _ c.run_out.ensures
