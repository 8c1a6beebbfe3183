-- What a call shows is what the public machine gives, whatever the secrets are: pools' words, fast words, generator words, stamps,
-- addresses and fed bytes.
use mathlib.Core.Path.{◌≡◌, refl, ap, ◌∙◌}
use mathlib.Core.Bool.{Bool, true, false}
use mathlib.Core.List.{List, []}
use Prim.Native.Nat.{ℕ}
use lib.ListN.{length}
use Rattle.ledger.specs.Choice.{pick}
use Rattle.ledger.specs.Shapes.{Shape, input_shape, blocking_shape}
use Rattle.ledger.specs.Places.{moved, extracted_from}
use Rattle.ledger.specs.Marks.{with_spots}
use Rattle.ledger.specs.PublicCalls.{brings, device_of}
use Rattle.ledger.specs.Machine.{Shown, timers_after, input_moved, blocking_moved, planned, plan_at, step_view}
use Rattle.ledger.specs.declared.Plan.{Plan}
use Rattle.ledger.specs.declared.Spot.{Spot}
use Rattle.pool.specs.Mixing.{Pool, mix}
use Rattle.pool.specs.Extracting.{extract}
use Rattle.pool.proofs.Extracted.{laws}
use Rattle.keeper.specs.Generator.{onto_key}
use Rattle.keeper.specs.Record.{timers_in, input_pool, blocking_pool, view, Outcome}
use Rattle.keeper.specs.Calls.{Call, device_event, interrupted, written, seeded_with, generator_read, blocking_read_of, public, stirred_by, payload}
use Rattle.keeper.specs.Narrative.{told}
use Rattle.keeper.specs.Obey.{obey, step}
use Rattle.keeper.specs.Demands.{shown}
use Rattle.keeper.specs.declared.Keeper.{Keeper}
use Rattle.keeper.proofs.Counter.{key_length, key_top, generated-length, generated_top, generated_keeps_length}
use Rattle.keeper.proofs.Fast.{stirred-length, fast_bytes, event-bytes}
use Rattle.keeper.proofs.Carried.{answer_is}
use Rattle.keeper.proofs.Same.{same}

-- ---- a keeper's lists that are lent have the lengths of their arrays; two of them matter here
pub record Whole (k : Keeper) : Type 0 where
  pub fast : length k.fast ≡ 4
  pub generator : length k.generator ≡ 16

-- ---- how many bytes a call brings
stirred_whole : (c : Call) (f : List ℕ) → length f ≡ 4 → length (stirred_by c f) ≡ 4
stirred_whole (device_event device now stamp value) f h = h
stirred_whole (interrupted now number stamp address) f h = stirred-length now number stamp address f
stirred_whole (written bs) f h = h
stirred_whole (seeded_with now bs credit) f h = h
stirred_whole (generator_read now len) f h = h
stirred_whole (blocking_read_of n) f h = h

fast_whole : (t : Bool) (c : Call) (f : List ℕ) → length f ≡ 4 → length (pick t (stirred_by c f) f) ≡ 4
unfolding pick
fast_whole true c f h = stirred_whole c f h
fast_whole false c f h = h

payload-length : (c : Call) (f : List ℕ) → length f ≡ 4 → length (payload c f) ≡ brings (public c)
payload-length (device_event device now stamp value) f h = event-bytes stamp now value
payload-length (interrupted now number stamp address) f h = fast_bytes f h
payload-length (written bs) f h = refl
payload-length (seeded_with now bs credit) f h = refl
payload-length (generator_read now len) f h = refl
payload-length (blocking_read_of n) f h = refl

fed_length : (t : Bool) (c : Call) (f : List ℕ) → length f ≡ 4 → length (pick t (payload c f) []) ≡ pick t (brings (public c)) 0
unfolding pick
fed_length true c f h = payload-length c f h
fed_length false c f h = refl

-- ---- where the pools' next bytes go
mixed_to : (sh : Shape) (p : Pool) (bs : List ℕ) (n : ℕ) → length bs ≡ n → (mix sh p bs).spot ≡ moved sh n p.spot
mixed_to sh p bs n e = (laws sh).mix-spot p bs ∙ ap (λ (m : ℕ). moved sh m p.spot) e

taken_to : (sh : Shape) (t : ℕ) (p : Pool) (s : Spot) → p.spot ≡ s → (extract sh t p).pool.spot ≡ extracted_from sh t s
taken_to sh t p s e = (laws sh).take-spot t p ∙ ap (extracted_from sh t) e

obey_shadow : (c : Call) (p : Plan) (k : Keeper) → Whole k → shown (obey c p k) ≡ planned (public c) p (view k)
unfolding obey planned input_moved blocking_moved
obey_shadow c p k w =
    let f = pick p.stirs (stirred_by c k.fast) k.fast in
    let i = mix input_shape (input_pool k) (pick p.feeds (payload c f) []) in
    let r = extract input_shape p.reseed i in
    let t = extract input_shape p.transfer r.pool in
    let b = mix blocking_shape (blocking_pool k) t.bytes in
    let d = extract blocking_shape p.deliver b in
    let x = onto_key r.bytes k.generator in
    let long : length x ≡ 16 = key_length r.bytes k.generator ∙ w.generator in
    let into = taken_to input_shape p.transfer r.pool _ (taken_to input_shape p.reseed i _ (mixed_to input_shape (input_pool k) _ _ (fed_length p.feeds c f (fast_whole p.stirs c k.fast w.fast)))) in
    let out = taken_to blocking_shape p.deliver b _ (mixed_to blocking_shape (blocking_pool k) t.bytes p.transfer ((laws input_shape).take-length p.transfer r.pool)) in
    let top = generated_top p.stream x ∙ key_top r.bytes k.generator in
    let a = answer_is c p k (generated-length p.stream x long) in
    λ j. record {
      view = record { ledger = with_spots (into j) (out j) p.ledger; timers = timers_after (device_of (public c)) p (timers_in k); fixed = top j };
      answer = a j;
    }

-- a call shows what the public machine gives
pub shadow : (k : Keeper) (c : Call) → Whole k → shown (told k c) ≡ step_view (view k) (public c)
unfolding step step_view
shadow k c w = ap shown (same k c) ∙ obey_shadow c (plan_at (view k) (public c)) k w

-- and leaves a whole keeper
pub stays_whole : (k : Keeper) (c : Call) → Whole k → Whole (told k c).keeper
unfolding step obey
stays_whole k c w = rw (same k c) (record { fast = fast_whole _ c k.fast w.fast; generator = generated_keeps_length _ _ ∙ key_length _ _ ∙ w.generator })

-- part by part
pub view_is : (k : Keeper) (c : Call) → Whole k → view (told k c).keeper ≡ (step_view (view k) (public c)).view
view_is k c w = ap (λ (s : Shown). s.view) (shadow k c w)

-- the number does not ask for the lengths
pub number_is : (k : Keeper) (c : Call) → (told k c).answer.number ≡ (step_view (view k) (public c)).answer.number
unfolding step obey step_view planned
number_is k c = ap (λ (o : Outcome). o.answer.number) (same k c)

pub delivered_is : (k : Keeper) (c : Call) → Whole k → (told k c).answer.delivered ≡ (step_view (view k) (public c)).answer.delivered
delivered_is k c w = ap (λ (s : Shown). s.answer.delivered) (shadow k c w)
