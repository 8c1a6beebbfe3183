use mathlib.Core.Path.{sym, ◌∙◌}
use lib.Seq.{length-take-le}
use native.Mathlib.Omega.{arith}
use Rattle.journal.proofs.Refused.{not_0}
use Rattle.transcript.proofs.Laws.{end_in_room}
use Rattle.nk.proofs.Texts.{only_text, only_one}
use Rattle.nk.proofs.replaying.refuse.Goals as goal

pub slice_bounds-line-end : goal.slice_bounds-line-end
slice_bounds-line-end g c = end_in_room _ _ _ _ c.ending-n.ensures

pub slice_bounds-hand_over-end : goal.slice_bounds-hand_over-end
slice_bounds-hand_over-end g c = sym (length-take-le _ _ (end_in_room _ _ _ _ c.ending-n.ensures))

pub hand_over-requires : goal.hand_over-requires
hand_over-requires g c = only_text _ _ _ c.requires.done_value c.requires.number_value (not_0 c.args.why) _ _ _ (omega arith) (rw c.number.ensures at c.ending-n.ensures)

pub returns : goal.returns
returns g c = c.hand_over.ensures ∙ only_one _ _ _ c.requires.done_value c.requires.number_value (not_0 c.args.why)
