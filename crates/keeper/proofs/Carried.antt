-- A plan that is carried out, shape by shape: what the record, the answer and the bytes are when it is over. What is used of a pool are its
-- laws alone.
use mathlib.Core.Path.{◌≡◌, ap, ap₂, ◌∙◌}
use mathlib.Core.Bool.{false}
use mathlib.Core.List.{List, [], ◌++◌, append-nil}
use Prim.Native.Nat.{ℕ, ◌+◌}
use native.Mathlib.Omega.{arith}
use lib.ListN.{length, length-append}
use Rattle.words.specs.Bytes.{bytes_words}
use Rattle.ledger.specs.Choice.{pick}
use Rattle.ledger.specs.Shapes.{Shape, input_shape, blocking_shape}
use Rattle.ledger.specs.Marks.{with_spots}
use Rattle.ledger.specs.PublicCalls.{device_of}
use Rattle.ledger.specs.Plans.{answer_of}
use Rattle.ledger.specs.Machine.{timers_after}
use Rattle.ledger.specs.declared.Plan.{Plan}
use Rattle.pool.specs.Mixing.{Pool, mix}
use Rattle.pool.specs.Extracting.{Extract, extract}
use Rattle.pool.proofs.Extracted.{laws, nothing}
use Rattle.keeper.specs.Generator.{xor_at, onto_key, Stream, generated}
use Rattle.keeper.specs.Record.{timers_in, input_pool, blocking_pool, keeper_of, with_generator, Outcome}
use Rattle.keeper.specs.Calls.{Call, public}
use Rattle.keeper.specs.Obey.{fast_after, for_reseed, for_transfer, for_delivery, from_generator, obey}
use Rattle.keeper.specs.declared.Keeper.{Keeper}
use Rattle.keeper.proofs.Counter.{generated-blocks}
use Rattle.keeper.proofs.KeyChange.{generated_none}

-- ---- the answer is what the plan says
pub answer_is : (c : Call) (p : Plan) (k : Keeper) → length (from_generator c p k).bytes ≡ p.stream → (obey c p k).answer ≡ answer_of p
unfolding obey
answer_is c p k w =
    let r = for_reseed c p k in
    let t = for_transfer c p k in
    let d = for_delivery c p k in
    let given : length (d.bytes ++ (from_generator c p k).bytes) ≡ p.deliver + p.stream = length-append d.bytes _ ∙ ap₂ ◌+◌ ((laws blocking_shape).take-length p.deliver _) w in
    let runs = ap₂ ◌+◌ (ap₂ ◌+◌ ((laws input_shape).take_runs p.reseed _) ((laws input_shape).take_runs p.transfer r.pool)) ((laws blocking_shape).take_runs p.deliver _) in
    let made = generated-blocks p.stream (onto_key r.bytes k.generator) in
    λ j. record { number = p.number; delivered = given j; blocks = made j; compressions = runs j; added = p.added }

-- ---- the blocking pool rests: nothing comes over, and nothing is delivered
-- what is left to do then is the reseed's r, and the generator's bytes
abbrev pub streamed_by : Call → Plan → Keeper → Extract → Stream → Outcome
streamed_by c p k r s =
    record {
      keeper = keeper_of (with_spots r.pool.spot k.ledger.blocking.spot p.ledger) (timers_after (device_of (public c)) p (timers_in k)) r.pool.words k.blocking (fast_after c p k) s.generator;
      answer = record { number = p.number; delivered = length s.bytes; blocks = s.blocks; compressions = r.runs; added = p.added };
      bytes = s.bytes;
    }

abbrev pub streamed : Call → Plan → Keeper → Extract → Outcome
streamed c p k r = streamed_by c p k r (generated p.stream (onto_key r.bytes k.generator))

-- no bytes from a pool, and none into it
pub none_taken : (sh : Shape) (t : ℕ) (q : Pool) → t ≡ 0 → extract sh t q ≡ nothing q
none_taken sh t q e = rw e ((laws sh).take_none q)

blocking_rests : (q r : Pool) (t d : ℕ) → t ≡ 0 → d ≡ 0 → extract blocking_shape d (mix blocking_shape q (extract input_shape t r).bytes) ≡ nothing q
blocking_rests q r t d et ed =
    none_taken blocking_shape d _ ed
    ∙ ap (λ (e : Extract). nothing (mix blocking_shape q e.bytes)) (none_taken input_shape t r et)
    ∙ ap nothing ((laws blocking_shape).mix_none q)

pub rests_blocking : (c : Call) (p : Plan) (k : Keeper) → p.transfer ≡ 0 → p.deliver ≡ 0 → obey c p k ≡ streamed c p k (for_reseed c p k)
unfolding obey
rests_blocking c p k et ed =
    let r = for_reseed c p k in
    let t = none_taken input_shape p.transfer r.pool et in
    let b = blocking_rests (blocking_pool k) r.pool p.transfer p.deliver et ed in
    let s = from_generator c p k in
    let runs : r.runs + 0 + 0 ≡ r.runs = omega arith in
    (λ j. record {
      keeper = keeper_of (with_spots (t j).pool.spot (b j).pool.spot p.ledger) (timers_after (device_of (public c)) p (timers_in k)) (t j).pool.words (b j).pool.words (fast_after c p k) s.generator;
      answer = record { number = p.number; delivered = length ((b j).bytes ++ s.bytes); blocks = s.blocks; compressions = r.runs + (t j).runs + (b j).runs; added = p.added };
      bytes = (b j).bytes ++ s.bytes;
    })
    ∙ ap (λ (n : ℕ). record { keeper = (streamed c p k r).keeper; answer = record { number = p.number; delivered = length s.bytes; blocks = s.blocks; compressions = n; added = p.added }; bytes = s.bytes }) runs

-- ---- nothing goes onto the key, and the generator rests: bytes come over and are delivered
pub key_rests : (t : ℕ) (q : Pool) (g : List ℕ) → t ≡ 0 → onto_key (extract input_shape t q).bytes g ≡ g
unfolding xor_at bytes_words
key_rests t q g e = ap (λ (x : Extract). onto_key x.bytes g) (none_taken input_shape t q e)

pub none_made : (n : ℕ) (g : List ℕ) → n ≡ 0 → generated n g ≡ record { bytes = []; generator = g; blocks = 0 }
none_made n g e = rw e (generated_none g)

pub still-generator : (c : Call) (p : Plan) (k : Keeper) → p.reseed ≡ 0 → p.stream ≡ 0 → from_generator c p k ≡ record { bytes = []; generator = k.generator; blocks = 0 }
still-generator c p k er es =
    none_made p.stream _ es ∙ ap (λ (g : List ℕ). record { bytes = []; generator = g; blocks = 0 }) (key_rests p.reseed _ k.generator er)

abbrev pub delivered : Call → Plan → Keeper → Extract → Outcome
delivered c p k r =
    let t = extract input_shape p.transfer r.pool in
    let d = extract blocking_shape p.deliver (mix blocking_shape (blocking_pool k) t.bytes) in
    record {
      keeper = keeper_of (with_spots t.pool.spot d.pool.spot p.ledger) (timers_after (device_of (public c)) p (timers_in k)) t.pool.words d.pool.words (fast_after c p k) k.generator;
      answer = record { number = p.number; delivered = length d.bytes; blocks = 0; compressions = r.runs + t.runs + d.runs; added = p.added };
      bytes = d.bytes;
    }

pub rests_generator : (c : Call) (p : Plan) (k : Keeper) → p.reseed ≡ 0 → p.stream ≡ 0 → obey c p k ≡ delivered c p k (for_reseed c p k)
unfolding obey
rests_generator c p k er es =
    let o = delivered c p k (for_reseed c p k) in
    let over : Stream → List ℕ → Outcome = λ x bs. record {
      keeper = with_generator x.generator o.keeper;
      answer = record { number = p.number; delivered = length bs; blocks = x.blocks; compressions = o.answer.compressions; added = p.added };
      bytes = bs;
    } in
    ap (λ (x : Stream). over x (o.bytes ++ x.bytes)) (still-generator c p k er es)
    ∙ ap (over (record { bytes = []; generator = k.generator; blocks = 0 })) (append-nil o.bytes)

-- ---- the input pool of a plan that neither feeds nor reseeds
pub untouched : (c : Call) (p : Plan) (k : Keeper) → p.feeds ≡ false → p.reseed ≡ 0 → for_reseed c p k ≡ nothing (input_pool k)
unfolding pick
untouched c p k ef er = none_taken input_shape p.reseed _ er ∙ ap nothing (rw ef ((laws input_shape).mix_none (input_pool k)))
