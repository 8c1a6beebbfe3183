-- The calls in two strokes: the plan is decided from public numbers alone, and the secrets obey it.
use Rattle.std.specs.Prelude.{List, [], ◌++◌, ℕ, ◌+◌, length}
use Rattle.ledger.specs.Choice.{pick}
use Rattle.ledger.specs.Shapes.{input_shape, blocking_shape}
use Rattle.ledger.specs.Marks.{with_spots}
use Rattle.ledger.specs.PublicCalls.{device_of}
use Rattle.ledger.specs.Machine.{timers_after, plan_at}
use Rattle.ledger.specs.declared.Plan.{Plan}
use Rattle.pool.specs.Mixing.{Pool, mix}
use Rattle.pool.specs.Extracting.{Extract, extract}
use Rattle.keeper.specs.Generator.{onto_key, Stream, generated}
use Rattle.keeper.specs.Record.{timers_in, input_pool, blocking_pool, keeper_of, view, Outcome}
use Rattle.keeper.specs.Calls.{Call, public, stirred_by, payload}
use Rattle.keeper.specs.declared.Keeper.{Keeper}

-- the fast pool takes in the call's numbers, if the plan says so
abbrev pub fast_after : Call → Plan → Keeper → List ℕ
fast_after c p k = pick p.stirs (stirred_by c k.fast) k.fast

-- the call's bytes are mixed into the input pool, if the plan says so
abbrev pub input_fed : Call → Plan → Keeper → Pool
input_fed c p k = mix input_shape (input_pool k) (pick p.feeds (payload c (fast_after c p k)) [])

-- so many bytes are extracted for a reseed; then so many for the blocking pool
abbrev pub for_reseed : Call → Plan → Keeper → Extract
for_reseed c p k = extract input_shape p.reseed (input_fed c p k)

abbrev pub for_transfer : Call → Plan → Keeper → Extract
for_transfer c p k = extract input_shape p.transfer (for_reseed c p k).pool

-- those are mixed into the blocking pool, and so many extracted from it
abbrev pub for_delivery : Call → Plan → Keeper → Extract
for_delivery c p k = extract blocking_shape p.deliver (mix blocking_shape (blocking_pool k) (for_transfer c p k).bytes)

-- the bytes of a reseed go onto the key, and the generator makes so many bytes
abbrev pub from_generator : Call → Plan → Keeper → Stream
from_generator c p k = generated p.stream (onto_key (for_reseed c p k).bytes k.generator)

-- the record afterwards
abbrev pub obeyed : Call → Plan → Keeper → Keeper
obeyed c p k =
    keeper_of (with_spots (for_transfer c p k).pool.spot (for_delivery c p k).pool.spot p.ledger)
    (timers_after (device_of (public c)) p (timers_in k))
    (for_transfer c p k).pool.words
    (for_delivery c p k).pool.words
    (fast_after c p k)
    (from_generator c p k).generator

-- the bytes handed out, and the compressions that were run for them
abbrev pub handed_out : Call → Plan → Keeper → List ℕ
handed_out c p k = (for_delivery c p k).bytes ++ (from_generator c p k).bytes

abbrev pub compressions_for : Call → Plan → Keeper → ℕ
compressions_for c p k = (for_reseed c p k).runs + (for_transfer c p k).runs + (for_delivery c p k).runs

-- a plan carried out
unfoldable pub obey : Call → Plan → Keeper → Outcome
obey c p k =
    record {
      keeper = obeyed c p k;
      answer = record { number = p.number; delivered = length (handed_out c p k); blocks = (from_generator c p k).blocks; compressions = compressions_for c p k; added = p.added };
      bytes = handed_out c p k;
    }

-- decide, then obey
unfoldable pub step : Keeper → Call → Outcome
step k c = obey c (plan_at (view k) (public c)) k
