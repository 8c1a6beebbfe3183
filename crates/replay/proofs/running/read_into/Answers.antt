use mathlib.Core.Path.{sym}
use native.Mathlib.Omega.{arith}
use Rattle.replay.proofs.Handing.{as_long, part_read}
use Rattle.replay.proofs.running.read_into.Goals as goal

pub slice_bounds-read_on-end-2 : goal.slice_bounds-read_on-end-2
slice_bounds-read_on-end-2 c = sym (as_long _ c.args.len _ (omega arith) c.room_for-n.ensures)

pub returns : goal.returns
returns c = search (part_read _ c.args.len c.args.out.now (omega arith) c.room_for-n.ensures, c.read_on.ensures)
