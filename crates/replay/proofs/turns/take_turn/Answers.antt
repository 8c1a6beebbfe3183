use mathlib.Core.Path.{sym, ◌∙◌}
use native.Mathlib.Omega.{arith}
use Rattle.replay.proofs.Handing.{front}
use Rattle.replay.proofs.OneTurn.{at_one, at-stop, at_end}
use Rattle.replay.proofs.turns.take_turn.Goals as goal

pub line_with-len-requires : goal.line_with-len-requires
line_with-len-requires c = (front _ _ _ _ _ _ c.run-a.ensures).fits

pub returns-in-Ok-Some : goal.returns-in-Ok-Some
returns-in-Ok-Some c = at_one _ _ _ _ _ _ _ (omega (arith, c.fits-room)) _ _ _ _ _ _ (sym (rw c.in-Ok-Some.field-0-is at c.in-Ok-Some.ensures)) c.run-a.ensures c.line_with-len.ensures

pub returns-in-Ok-None : goal.returns-in-Ok-None
returns-in-Ok-None c = at_end _ _ _ _ _ _ _ (omega (arith, c.fits-room)) _ (sym (rw c.in-Ok-None.field-0-is at c.in-Ok-None.ensures)) c.ending.ensures

pub returns-in-Err : goal.returns-in-Err
returns-in-Err c = at-stop _ _ _ _ _ _ _ (omega (arith, c.fits-room)) _ _ (sym c.in-Err.ensures) (rw c.number.ensures at c.ending-in-Err.ensures)
