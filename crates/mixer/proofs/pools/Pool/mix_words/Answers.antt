-- `mix_words` meets its contract: the pool as it is, is the pool that the words so far have made.
use mathlib.Core.Path.{refl, sym, ap, ◌∙◌}
use native.Mathlib.Numerals.{add-one}
use lib.Seq.{take_all}
use Rattle.words.specs.Bytes.{words_bytes}
use Rattle.words.proofs.Numbers.{words_bytes-suc}
use Rattle.pool.specs.Mixing.{mix}
use Rattle.mixer.specs.Pools.{pool_of, shape}
use Rattle.mixer.proofs.Mixes.{mix_then}
use Rattle.mixer.proofs.pools.Pool.mix_words.Goals as goal

pub loop-x-init : goal.loop-x-init
unfolding words_bytes mix
loop-x-init g c = record { same_words = refl; pool_after = refl }

pub loop-x-preserved : goal.loop-x-preserved
loop-x-preserved g c = let i = c.loop-x.invariant in
    record {
      same_words = c.mix_by.ensures.same_words ∙ i.same_words;
      pool_after = mix_then _ _ _ _ _ _ _ (rw (add-one, c.bytes_of_u32.ensures) (sym (words_bytes-suc _ c.loop-x.x-index c.loop-x-test.true))) i.pool_after c.mix_by.ensures.pool_after;
    }

pub returns-clause-pool_after : goal.returns-clause-pool_after
returns-clause-pool_after g c = c.loop-x.invariant.pool_after ∙ ap (λ bytes. mix (shape c.args.self.now) (pool_of c.args.self.now) (words_bytes bytes)) (take_all _ _ c.loop-x-test.false)
