use lib.ListN.{length-set}
use native.Mathlib.Omega.{arith}
use Rattle.words.proofs.Rooms.{one_byte_more}
use Rattle.words.proofs.room.lay_bytes.Goals as goal

pub loop-k-preserved : goal.loop-k-preserved
loop-k-preserved c = (simp length-set c.loop-k.invariant.0, rw c.loop-k.invariant.1 (one_byte_more c.args.out.now c.args.at c.args.bytes.now c.loop-k.k (omega arith)))
