use mathlib.Core.Path.{refl}
use Prim.Native.Nat.{◌+◌}
use native.Mathlib.Omega.{arith}
use Rattle.mixer.proofs.Blocks.{hash_start, in_blocks, hash_more, hash_done}
use Rattle.mixer.proofs.extracting.hash_pool.Goals as goal

pub loop-k-init : goal.loop-k-init
loop-k-init c = record {
  whole = refl;
  left = rw (c.initial_hash-h.ensures, hash_start _ c.requires);
}

pub message-requires : goal.message-requires
message-requires c = let b = in_blocks _ c.requires in
    omega arith

pub loop-k-preserved : goal.loop-k-preserved
loop-k-preserved c = let b = in_blocks _ c.requires in
    record {
      whole = omega arith;
      left = hash_more _ _ _ _ _ _ c.loop-k-test.true b c.loop-k.invariant.whole (rw c.message.ensures at c.compress_in-g.ensures) c.loop-k.invariant.left;
    }

pub returns : goal.returns
returns c = hash_done _ c.args.ws.now _ _ c.loop-k.k c.loop-k-test.false c.loop-k.invariant.left

pub returns-2 : goal.returns-2
returns-2 c = let b = in_blocks _ c.requires in
    hash_done _ c.args.ws.now _ _ (c.loop-k.k + 16) (omega arith) (hash_more _ _ _ _ _ _ c.loop-k-test.true b c.loop-k.invariant.whole (rw c.message.ensures at c.compress_in-g.ensures) c.loop-k.invariant.left)
