use mathlib.Core.Path.{sym}
use lib.Seq.{length-take-le}
use native.Mathlib.Omega.{arith}
use Rattle.lab.proofs.appending.write_both.Goals as goal

pub slice_bounds-replace_both-end : goal.slice_bounds-replace_both-end
slice_bounds-replace_both-end g c = sym (length-take-le _ c.file-n.new.room (omega (arith, c.file-n.ensures.upper_bound.0, c.file-n.ensures.upper_bound.1)))
