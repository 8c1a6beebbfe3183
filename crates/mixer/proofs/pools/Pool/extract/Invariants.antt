use mathlib.Core.Path.{◌≡◌}
use Prim.Native.Nat.{◌-◌}
use lib.ListN.{length}
use Rattle.pool.specs.Extracting.{extract}
use Rattle.mixer.specs.Pools.{pool_of, shape}
use Rattle.mixer.proofs.Blocks.{Left}
use Rattle.mixer.proofs.pools.Pool.extract.Given as goal

abbrev pub invariant-loop-k : goal.invariant-loop-k
invariant-loop-k g l = record {
  same_words : l.self.words.ghost_name ≡ l.initial.self.words.ghost_name;
  room : length l.out ≡ length l.initial.out;
  left : Left (shape l.initial.self) (pool_of l.self) l.out l.k (extract (shape l.initial.self) (length l.initial.out) (pool_of l.initial.self));
}

abbrev pub decreases-loop-k : goal.decreases-loop-k
decreases-loop-k g l = length l.out - l.k
