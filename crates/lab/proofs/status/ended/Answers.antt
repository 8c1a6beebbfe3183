use mathlib.Core.Path.{sym}
use lib.Seq.{length-take-le}
use Rattle.transcript.proofs.Laws.{end_in_room}
use Rattle.lab.proofs.status.ended.Goals as goal

pub slice_bounds-line-end : goal.slice_bounds-line-end
slice_bounds-line-end g c = end_in_room _ _ _ _ c.ending-n.ensures

pub slice_bounds-write-end : goal.slice_bounds-write-end
slice_bounds-write-end g c = sym (length-take-le _ _ (end_in_room _ _ _ _ c.ending-n.ensures))
