use mathlib.Core.Path.{sym}
use native.Mathlib.Omega.{arith}
use Rattle.replay.proofs.Handing.{as_long, part_blocking}
use Rattle.replay.proofs.running.blocking_read_into.Goals as goal

pub slice_bounds-blocking_read_on-end-2 : goal.slice_bounds-blocking_read_on-end-2
slice_bounds-blocking_read_on-end-2 c = sym (as_long _ c.args.len _ (omega arith) c.room_for-n.ensures)

pub returns : goal.returns
returns c = search (part_blocking _ c.args.len c.args.out.now (omega arith) c.room_for-n.ensures, c.blocking_read_on.ensures)
