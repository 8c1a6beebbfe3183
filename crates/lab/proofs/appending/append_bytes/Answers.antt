use mathlib.Core.Path.{sym, ap, ◌∙◌}
use lib.ListN.{length}
use lib.Seq.{length-take-le}
use Rattle.index.proofs.Kept.{longer_fits, answered_fits, room_length}
use native.Mathlib.Omega.{arith}
use Rattle.lab.proofs.appending.append_bytes.Goals as goal

pub slice_bounds-room-end : goal.slice_bounds-room-end
slice_bounds-room-end g c = let long = answered_fits _ _ _ _ _ (longer_fits _ _ _ _ c.roomed-room.ensures) _ c.append_filed-done.ensures.value c.if-done-ne-DONE.false in
    let left = ap length c.append_filed-done.ensures.room_after ∙ room_length _ _ _ _ in
    omega (arith, long, left, c.roomed-room.ensures)

pub slice_bounds-write_both-end : goal.slice_bounds-write_both-end
slice_bounds-write_both-end g c = let long = answered_fits _ _ _ _ _ (longer_fits _ _ _ _ c.roomed-room.ensures) _ c.append_filed-done.ensures.value c.if-done-ne-DONE.false in
    let left = ap length c.append_filed-done.ensures.room_after ∙ room_length _ _ _ _ in
    sym (length-take-le _ _ (omega (arith, long, left, c.roomed-room.ensures)))
