use native.Mathlib.Omega.{arith}
use lib.ListN.{length-set}
use Rattle.mixer.proofs.Blocks.{message_suc, message_all}
use Rattle.mixer.proofs.extracting.message.Goals as goal

pub loop-i-preserved : goal.loop-i-preserved
loop-i-preserved c = record {
  as_many = simp length-set c.loop-i.invariant.as_many;
  front = message_suc c.args.ws.now c.loop-i.m c.args.k c.loop-i.i _ (omega arith) c.loop-i.invariant.as_many (omega arith) c.swap_bytes.ensures c.loop-i.invariant.front;
}

pub returns : goal.returns
returns c = message_all c.args.ws.now c.loop-i.m c.args.k c.loop-i.i (omega arith) c.loop-i.invariant.as_many c.loop-i.invariant.front
