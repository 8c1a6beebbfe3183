use mathlib.Core.Path.{sym}
use native.Mathlib.Omega.{arith}
use lib.Seq.{length-take-le}
use Rattle.transcript.proofs.Laws.{same_size}
use Rattle.nk.proofs.message_numbers.issue_one.Goals as goal

pub slice_bounds-line-end : goal.slice_bounds-line-end
slice_bounds-line-end g c = omega (arith, c.number_line-n.ensures.fits, same_size _ _ _ _ _ c.number_line-n.ensures.line)

pub slice_bounds-write-end : goal.slice_bounds-write-end
slice_bounds-write-end g c =
    let long = same_size _ _ _ _ _ c.number_line-n.ensures.line in
    sym (length-take-le _ _ (omega (arith, c.number_line-n.ensures.fits, long)))
