use mathlib.Core.Path.{sym}
use lib.Seq.{length-take-le}
use native.Mathlib.Omega.{arith}
use Rattle.lab.proofs.indexing.write_index.Goals as goal

pub slice_bounds-text-end : goal.slice_bounds-text-end
slice_bounds-text-end g c = omega (arith, c.file-n.ensures.upper_bound.0, c.file-n.ensures.upper_bound.1)

pub slice_bounds-replace-end : goal.slice_bounds-replace-end
slice_bounds-replace-end g c = sym (length-take-le _ c.file-n.new.room (omega (arith, c.file-n.ensures.upper_bound.0, c.file-n.ensures.upper_bound.1)))
