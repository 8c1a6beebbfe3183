use mathlib.Core.Path.{◌≡◌, ap, ◌∙◌}
use mathlib.Core.List.{List, [], ◌∷◌}
use Prim.Native.Nat.{ℕ}
use Rattle.words.specs.Bytes.{words_bytes}
use Rattle.keeper.specs.Calls.{event_bytes}
use Rattle.pool.specs.Mixing.{mix}
use Rattle.mixer.specs.Pools.{pool_of, shape}
use Rattle.flows.proofs.Laid.{event-words}
use Rattle.flows.proofs.feed_event.Goals as goal

pub returns-clause-pool_after : goal.returns-clause-pool_after
returns-clause-pool_after g c = let a = c.args in
    let e : words_bytes (c.low_half.result ∷ c.high_half.result ∷ a.at ∷ a.value ∷ []) ≡ event_bytes a.stamp a.at a.value = rw (c.low_half.ensures, c.high_half.ensures) (event-words a.stamp a.at a.value) in
    c.mix_words.ensures.pool_after ∙ ap (λ (bytes : List ℕ). mix (shape a.pool.now) (pool_of a.pool.now) bytes) e
