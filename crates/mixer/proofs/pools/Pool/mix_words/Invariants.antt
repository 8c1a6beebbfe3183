use mathlib.Core.Path.{◌≡◌}
use lib.ListN.{take}
use Rattle.words.specs.Bytes.{words_bytes}
use Rattle.pool.specs.Mixing.{mix}
use Rattle.mixer.specs.Pools.{pool_of, shape}
use Rattle.mixer.proofs.pools.Pool.mix_words.Given as goal

abbrev pub invariant-loop-x : goal.invariant-loop-x
invariant-loop-x g l = record {
  same_words : l.self.words.ghost_name ≡ l.initial.self.words.ghost_name;
  pool_after : pool_of l.self ≡ mix (shape l.initial.self) (pool_of l.initial.self) (words_bytes (take l.x-index l.words));
}
