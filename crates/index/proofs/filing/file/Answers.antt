use native.Mathlib.Omega.{arith}
use Rattle.index.proofs.Filed.{laid_file, file_length}
use Rattle.index.proofs.filing.file.Goals as goal

pub returns : goal.returns
returns c = let places = c.lay_places.ensures in
    let total = c.lay_sum.ensures in
    let kinds = c.lay_kinds.ensures in
    let opened = c.open.ensures in
    let n = c.places_used-n.ensures in
    let ix = c.args.index in
    record { room_after = (laid_file ix _ (omega arith) (omega arith) n.0 c.args.room.now _ _ _ _ opened kinds total places, file_length ix _ (omega arith) (omega arith) n.0); upper_bound = (omega (arith, n.1), omega arith) }
