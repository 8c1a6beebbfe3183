use mathlib.Core.Path.{◌∙◌}
use native.Mathlib.Omega.{arith}
use Rattle.index.specs.Filing.{file_of}
use Rattle.index.proofs.Filed.{take_file}
use Rattle.index.proofs.Alike.{pointwise_same}
use Rattle.index.proofs.filing.same_file.Goals as goal

pub returns : goal.returns
returns c = let told = c.file-n.ensures in
    let e = take_file _ (file_of c.args.index) _ _ told.room_after.0 told.room_after.1 (omega (arith, told.upper_bound.0)) in
    rw e at (c.eq.ensures ∙ pointwise_same c.args.given.now _)
