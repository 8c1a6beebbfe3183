-- `extract` meets its contract: what is left to extract gives, after the bytes that are in the room, what the
-- whole gives.
use mathlib.Core.Path.{◌∙◌}
use native.Mathlib.Omega.{arith}
use borrow.Author.Rules.{rules}
use Rattle.mixer.specs.Pools.{pool_of}
use Rattle.mixer.proofs.Blocks.{left_step, left_done, left_last}
use Rattle.mixer.proofs.pools.Pool.extract.Goals as goal

pub loop-k-preserved : goal.loop-k-preserved
loop-k-preserved g c = let i = c.loop-k.invariant in
    record {
      same_words = search rules;
      room = c.put_block.auto.out ∙ i.room;
      left = left_step _ (pool_of c.loop-k.self) _ c.loop-k.out _ _ _ c.loop-k.k _ (omega (arith, c.loop-k-test.true, i.room)) c.hash_of-h.ensures c.folded.ensures c.mix_back.ensures.pool_after c.put_block.ensures i.left;
    }

pub returns-clause-pool_after : goal.returns-clause-pool_after
returns-clause-pool_after g c = let i = c.loop-k.invariant in
    (left_done _ _ c.loop-k.out c.loop-k.k _ (omega (arith, c.loop-k-test.false, i.room)) i.left).0

pub returns-clause-out_after : goal.returns-clause-out_after
returns-clause-out_after g c = let i = c.loop-k.invariant in
    (left_done _ _ c.loop-k.out c.loop-k.k _ (omega (arith, c.loop-k-test.false, i.room)) i.left).1

pub returns-2-clause-pool_after : goal.returns-2-clause-pool_after
returns-2-clause-pool_after g c = let i = c.loop-k.invariant in
    (left_last _ (pool_of c.loop-k.self) _ c.loop-k.out _ _ _ c.loop-k.k _ (omega (arith, c.loop-k-test.true, i.room)) (omega (arith, i.room)) c.hash_of-h.ensures c.folded.ensures c.mix_back.ensures.pool_after c.put_block.ensures i.left).0

pub returns-2-clause-out_after : goal.returns-2-clause-out_after
returns-2-clause-out_after g c = let i = c.loop-k.invariant in
    (left_last _ (pool_of c.loop-k.self) _ c.loop-k.out _ _ _ c.loop-k.k _ (omega (arith, c.loop-k-test.true, i.room)) (omega (arith, i.room)) c.hash_of-h.ensures c.folded.ensures c.mix_back.ensures.pool_after c.put_block.ensures i.left).1
