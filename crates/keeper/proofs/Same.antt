-- The two tellings are one: the paper's order, step by step, and the plan that the secrets obey give the same keeper, the same answer
-- and the same bytes, for every keeper and every call.
use mathlib.Core.Path.{◌≡◌, refl, sym, ap, ◌∙◌}
use mathlib.Core.Bool.{Bool, true, false, ◌&&◌, not}
use mathlib.Core.List.{List, []}
use Prim.Native.Nat.{ℕ, zero, suc, ◌+◌, ◌-◌, ◌*◌}
use native.Mathlib.Omega.{arith}
use lib.Dec.{leb, eqb}
use lib.ListN.{length}
use borrow.Author.Tests.{ne_eqb}
use Rattle.words.specs.Bytes.{bytes_words, words_bytes}
use Rattle.ledger.specs.Choice.{pick}
use Rattle.ledger.specs.Shapes.{input_shape, blocking_shape}
use Rattle.ledger.specs.Credits.{credited, crediting, taken, debited, reseed_takes}
use Rattle.ledger.specs.Clocks.{next_timer, event_bits}
use Rattle.ledger.specs.Marks.{is_seeded, input_counts, blocking_counts, with_spots, valued, tallied, spilled, reseed_due}
use Rattle.ledger.specs.PublicCalls.{device_of}
use Rattle.ledger.specs.Timers.{fresh_timer, kept}
use Rattle.ledger.specs.Plans.{plan_of, idle, first_seeding, reseeding, feed, keeping, plan_event, plan_interrupt, plan_write, plan_seed, plan_read, transferred, refilled, plan_blocking_read, plan_call}
use Rattle.ledger.proofs.InRange.{plan_at_is}
use Rattle.ledger.specs.declared.Ledger.{Ledger}
use Rattle.ledger.specs.declared.Timer.{Timer}
use Rattle.ledger.specs.declared.Plan.{Plan}
use Rattle.pool.specs.Mixing.{Pool, mix}
use Rattle.pool.specs.Extracting.{Extract, extract}
use Rattle.pool.proofs.Extracted.{laws, nothing}
use Rattle.keeper.specs.FastPool.{stirred}
use Rattle.keeper.specs.Generator.{xor_at, onto_key, stream, generated}
use Rattle.keeper.specs.Record.{timers_in, device_timer, input_pool, blocking_pool, keeper_of, with_ledger, with_timer, with_input_pool, with_fast, with_generator, view, Outcome, refused, Run, reached, adding, finished}
use Rattle.keeper.specs.Calls.{Call, device_event, interrupted, written, seeded_with, generator_read, blocking_read_of, public, event_bytes, stirred_by, payload}
use Rattle.keeper.specs.Narrative.{mix_input, recount_input, debit_input, rekey, reseed, credit_input, event_call, interrupt_call, write_call, seed_call, generate, read_call, transfer, deliver, blocking_call, act, told}
use Rattle.keeper.specs.Obey.{obey, step}
use Rattle.keeper.specs.declared.Keeper.{Keeper}
use Rattle.keeper.proofs.Carried.{streamed, rests_blocking, delivered, rests_generator, untouched}

-- ---- a plan that leaves both pools alone
unfed : (c : Call) (p : Plan) (k : Keeper) → p.feeds ≡ false → p.reseed ≡ 0 → p.transfer ≡ 0 → p.deliver ≡ 0 → obey c p k ≡ streamed c p k (nothing (input_pool k))
unfed c p k ef er et ed = rests_blocking c p k et ed ∙ ap (streamed c p k) (untouched c p k ef er)

-- a plan that does nothing is a refusal
pub rests : (n : ℕ) (c : Call) (k : Keeper) → refused n k ≡ obey c (idle n k.ledger) k
unfolding pick generated stream xor_at bytes_words
rests n c k = sym (unfed c (idle n k.ledger) k refl refl refl refl)

-- a choice between plans is a choice between outcomes
obey-pick : (c : Call) (t : Bool) (p q : Plan) (k : Keeper) {x y : Outcome} → x ≡ obey c p k → y ≡ obey c q k → pick t x y ≡ obey c (pick t p q) k
unfolding pick
obey-pick c true p q k e f = e
obey-pick c false p q k e f = f

-- ---- mixed, credited, perhaps reseeded
-- from the keeper k, its input pool at a count of cc, to which u units were added and of which t bytes go onto the key
form_from : ℕ → Keeper → ℕ → ℕ → ℕ → Extract → Outcome
form_from now k cc u t e =
    record {
      keeper =
          with_ledger (with_spots e.pool.spot k.ledger.blocking.spot (reseeding now cc t k.ledger))
          (with_generator (onto_key e.bytes k.generator) (with_input_pool e.pool k));
      answer = record { number = 0; delivered = 0; blocks = 0; compressions = e.runs; added = u };
      bytes = [];
    }

form : ℕ → Keeper → ℕ → ℕ → ℕ → Outcome
form now k cc u t = form_from now k cc u t (extract input_shape t (input_pool k))

-- at a count of cc with nothing taken
unmoved : (now : ℕ) (k : Keeper) (cc u : ℕ) → finished (adding u (reached (recount_input cc k))) ≡ form now k cc u 0
unfolding form form_from pick xor_at bytes_words
unmoved now k cc u =
    let e : cc ≡ cc - 64 * 0 = omega arith in
    ap (λ (n : ℕ). finished (adding u (reached (recount_input n k)))) e ∙ sym (ap (form_from now k cc u 0) ((laws input_shape).take_none (input_pool k)))

-- t bytes that were extracted go onto the key
rekeyed : ℕ → ℕ → Extract → Keeper → Run
rekeyed now t e k = record { keeper = rekey now e (debit_input t k); compressions = e.runs; added = 0 }

-- a reseed of t bytes from a count of cc, in the paper's order
reseeded : (now : ℕ) (k : Keeper) (cc u t : ℕ)
    → let k₁ = recount_input cc k in
    finished (adding u (pick (eqb t 0) (reached k₁) (rekeyed now t (extract input_shape t (input_pool k₁)) k₁))) ≡ form now k cc u t
unfolding pick rekeyed
reseeded now k cc u zero = unmoved now k cc u
reseeded now k cc u (suc n) = rw (ne_eqb (suc n) 0 (λ e. omega arith)) (unfold form form_from in rw (ne_eqb (suc n) 0 (λ e. omega arith)))

-- the two ways to tell whether a reseed comes
credits : (now : ℕ) (k : Keeper) (a s l : Bool) (cc u t : ℕ) → (a ≡ true → cc ≡ k.ledger.input.count)
    → let k₁ = recount_input cc k in
    finished (adding u (pick a (reached k) (pick (s && l) (pick (eqb t 0) (reached k₁) (rekeyed now t (extract input_shape t (input_pool k₁)) k₁)) (reached k₁))))
    ≡ form now k cc u (pick (not a && (s && l)) t 0)
unfolding pick
credits now k true s l cc u t h = ap (λ (n : ℕ). finished (adding u (reached (recount_input n k)))) (sym (h refl)) ∙ unmoved now k cc u
credits now k false true true cc u t h = reseeded now k cc u t
credits now k false true false cc u t h = unmoved now k cc u
credits now k false false l cc u t h = unmoved now k cc u

credited_none : (S n count : ℕ) → eqb n 0 ≡ true → credited S n count ≡ count
unfolding credited pick
credited_none S n count e = rw e

-- the keeper after a call's bytes are mixed in and its marks l, its timer and its fast pool kept
base : Bool → Bool → Timer → Ledger → Call → Keeper → Keeper
base keeps stirs t l c k =
    let f = pick stirs (stirred_by c k.fast) k.fast in
    let i = mix input_shape (input_pool k) (payload c f) in
    keeper_of (with_spots i.spot k.ledger.blocking.spot l) (pick keeps (kept (device_of (public c)) t (timers_in k)) (timers_in k)) i.words k.blocking f k.generator

-- a plan that feeds
feeding : ℕ → Bool → Bool → Timer → Ledger → ℕ → ℕ → ℕ → Plan
feeding now keeps stirs tm l cc u t =
    record { number = 0; ledger = reseeding now cc t l; added = u; timer = tm; keeps = keeps; stirs = stirs; feeds = true; reseed = t; transfer = 0; deliver = 0; stream = 0 }

formed : (now : ℕ) (keeps stirs : Bool) (tm : Timer) (l : Ledger) (cc u t : ℕ) (c : Call) (k : Keeper)
    → form now (base keeps stirs tm l c k) cc u t ≡ obey c (feeding now keeps stirs tm l cc u t) k
unfolding form form_from base feeding pick generated stream xor_at bytes_words
formed now keeps stirs tm l cc u t c k = sym (rests_blocking c (feeding now keeps stirs tm l cc u t) k refl refl)

feeds : (now n : ℕ) (keeps stirs : Bool) (tm : Timer) (l : Ledger) (c : Call) (k : Keeper)
    → let cc = crediting input_shape.size n l.input.count in
    finished (credit_input now n (base keeps stirs tm l c k)) ≡ obey c (feeding now keeps stirs tm l cc.count cc.added (first_seeding n cc.count l)) k
unfolding credit_input reseed first_seeding base rekeyed
feeds now n keeps stirs tm l c k =
    let cc = credited input_shape.size n l.input.count in
    let u = cc - l.input.count in
    credits now (base keeps stirs tm l c k) (eqb n 0) (not (is_seeded l)) (leb 1024 cc) cc u (reseed_takes cc) (λ h. credited_none input_shape.size n l.input.count h)
    ∙ formed now keeps stirs tm l cc u (first_seeding n cc l) c k

-- ---- the calls, one by one
fed_event : (device now stamp value : ℕ) (k : Keeper)
    → let t = device_timer k device in
    let k₁ = mix_input (event_bytes stamp now value) k in
    finished (credit_input now (event_bits now t) (with_timer device (next_timer now t) (with_ledger (valued device value k₁.ledger) k₁)))
    ≡ obey (device_event device now stamp value) (keeping (next_timer now t) (feed now false (event_bits now t) (valued device value k.ledger))) k
unfolding feed feeding base pick
fed_event device now stamp value k =
    let t = device_timer k device in
    feeds now (event_bits now t) true false (next_timer now t) (valued device value k.ledger) (device_event device now stamp value) k

same_event : (device now stamp value : ℕ) (k : Keeper)
    → event_call device now stamp value k ≡ obey (device_event device now stamp value) (plan_event device now value (device_timer k device) k.ledger) k
unfolding event_call plan_event
same_event device now stamp value k =
    let c = device_event device now stamp value in
    obey-pick c _ _ _ k (rests 4 c k) (obey-pick c _ _ _ k (rests 7 c k) (fed_event device now stamp value k))

only_stirs : (now number stamp address : ℕ) (k : Keeper)
    → finished (reached (with_ledger (tallied k.ledger) (with_fast (stirred now number stamp address k.fast) k)))
    ≡ obey (interrupted now number stamp address) (plan_of 0 (tallied k.ledger) 0 true false 0 0 0 0) k
unfolding pick generated stream xor_at bytes_words
only_stirs now number stamp address k = sym (unfed (interrupted now number stamp address) (plan_of 0 (tallied k.ledger) 0 true false 0 0 0 0) k refl refl refl refl)

spills : (now number stamp address : ℕ) (k : Keeper)
    → let f = stirred now number stamp address k.fast in
    let k₁ = mix_input (words_bytes f) (with_fast f k) in
    finished (credit_input now 1 (with_ledger (spilled now k₁.ledger) k₁))
    ≡ obey (interrupted now number stamp address) (feed now true 1 (spilled now k.ledger)) k
unfolding feed feeding base pick
spills now number stamp address k = feeds now 1 false true fresh_timer (spilled now k.ledger) (interrupted now number stamp address) k

same_interrupt : (now number stamp address : ℕ) (k : Keeper)
    → interrupt_call now number stamp address k ≡ obey (interrupted now number stamp address) (plan_interrupt now k.ledger) k
unfolding interrupt_call plan_interrupt
same_interrupt now number stamp address k =
    obey-pick (interrupted now number stamp address) _ _ _ k (only_stirs now number stamp address k) (spills now number stamp address k)

mixes : (bs : List ℕ) (k : Keeper) → finished (reached (mix_input bs k)) ≡ obey (written bs) (plan_of 0 k.ledger 0 false true 0 0 0 0) k
unfolding pick generated stream xor_at bytes_words
mixes bs k =
    let p = plan_of 0 k.ledger 0 false true 0 0 0 0 in
    sym (rests_blocking (written bs) p k refl refl ∙ ap (streamed (written bs) p k) ((laws input_shape).take_none (mix input_shape (input_pool k) bs)))

same_write : (bs : List ℕ) (k : Keeper) → write_call bs k ≡ obey (written bs) (plan_write (length bs) k.ledger) k
unfolding write_call plan_write
same_write bs k = obey-pick (written bs) _ _ _ k (rests 3 (written bs) k) (mixes bs k)

seeds : (now : ℕ) (bs : List ℕ) (credit : ℕ) (k : Keeper)
    → finished (credit_input now credit (mix_input bs k)) ≡ obey (seeded_with now bs credit) (feed now false credit k.ledger) k
unfolding feed feeding base pick
seeds now bs credit k = feeds now credit false false fresh_timer k.ledger (seeded_with now bs credit) k

same_seed : (now : ℕ) (bs : List ℕ) (credit : ℕ) (k : Keeper) → seed_call now bs credit k ≡ obey (seeded_with now bs credit) (plan_seed now (length bs) credit k.ledger) k
unfolding seed_call plan_seed
same_seed now bs credit k =
    let c = seeded_with now bs credit in
    obey-pick c _ _ _ k (rests 3 c k) (obey-pick c _ _ _ k (rests 5 c k) (seeds now bs credit k))

-- a read that takes t bytes for a reseed first
reads : (now len t : ℕ) (c : Call) (k : Keeper)
    → generate len (pick (eqb t 0) (reached k) (rekeyed now t (extract input_shape t (input_pool k)) k))
    ≡ obey c (plan_of 0 (reseeding now k.ledger.input.count t k.ledger) 0 false false t 0 0 len) k
unfolding pick generate rekeyed xor_at bytes_words
reads now len zero c k =
    let e : k.ledger.input.count ≡ k.ledger.input.count - 64 * 0 = omega arith in
    ap (λ (n : ℕ). generate len (reached (recount_input n k))) e ∙ sym (unfed c (plan_of 0 (reseeding now k.ledger.input.count 0 k.ledger) 0 false false 0 0 0 len) k refl refl refl refl)
reads now len (suc n) c k =
    let p = plan_of 0 (reseeding now k.ledger.input.count (suc n) k.ledger) 0 false false (suc n) 0 0 len in
    let r : obey c p k ≡ streamed c p k (extract input_shape (suc n) (input_pool k)) =
    rests_blocking c p k refl refl ∙ ap (λ (q : Pool). streamed c p k (extract input_shape (suc n) q)) ((laws input_shape).mix_none (input_pool k)) in
    rw (ne_eqb (suc n) 0 (λ h. omega arith)) (rw (ne_eqb (suc n) 0 (λ h. omega arith)) at (sym r))

reads_if : (now len : ℕ) (due : Bool) (c : Call) (k : Keeper)
    → generate len (pick due (reseed now k) (reached k))
    ≡ obey c (plan_of 0 (reseeding now k.ledger.input.count (pick due (reseed_takes k.ledger.input.count) 0) k.ledger) 0 false false (pick due (reseed_takes k.ledger.input.count) 0) 0 0 len) k
unfolding reseed rekeyed pick
reads_if now len true c k = reads now len (reseed_takes k.ledger.input.count) c k
reads_if now len false c k = reads now len 0 c k

same_read : (now len : ℕ) (k : Keeper) → read_call now len k ≡ obey (generator_read now len) (plan_read now len k.ledger) k
unfolding read_call plan_read
same_read now len k =
    let c = generator_read now len in
    obey-pick c _ _ _ k (rests 3 c k) (obey-pick c _ _ _ k (rests 0 c k) (obey-pick c _ _ _ k (rests 2 c k) (reads_if now len (reseed_due now k.ledger) c k)))

-- t bytes brought over, then what is taken for n delivered
draws : (n t : ℕ) (c : Call) (k : Keeper)
    → let r = refilled t k.ledger in
    let d = taken n 0 r.count in
    deliver n (transfer t k) ≡ obey c (plan_of 0 (blocking_counts (debited d r.count) (input_counts (debited t k.ledger.input.count) k.ledger)) r.added false false 0 t d 0) k
unfolding deliver transfer pick
draws n t c k =
    let r = refilled t k.ledger in
    let d = taken n 0 r.count in
    let p = plan_of 0 (blocking_counts (debited d r.count) (input_counts (debited t k.ledger.input.count) k.ledger)) r.added false false 0 t d 0 in
    let o = delivered c p k (nothing (input_pool k)) in
    let x = extract input_shape t (input_pool k) in
    let y = extract blocking_shape d (mix blocking_shape (blocking_pool k) x.bytes) in
    let z : x.runs + y.runs ≡ 0 + x.runs + y.runs = omega arith in
    ap (λ (m : ℕ). record { keeper = o.keeper; answer = record { number = 0; delivered = length y.bytes; blocks = 0; compressions = m; added = r.added }; bytes = y.bytes }) z
    ∙ sym (rests_generator c p k refl refl ∙ ap (delivered c p k) (untouched c p k refl refl))

same_blocking : (n : ℕ) (k : Keeper) → blocking_call n k ≡ obey (blocking_read_of n) (plan_blocking_read n k.ledger) k
unfolding blocking_call plan_blocking_read
same_blocking n k =
    let c = blocking_read_of n in
    obey-pick c _ _ _ k (rests 3 c k) (obey-pick c _ _ _ k (rests 0 c k) (obey-pick c _ _ _ k (rests 1 c k) (draws n (transferred n k.ledger) c k)))

same_act : (k : Keeper) (c : Call) → act k c ≡ obey c (plan_call k.ledger (device_timer k (device_of (public c))) (public c)) k
unfolding act plan_call
same_act k (device_event device now stamp value) = same_event device now stamp value k
same_act k (interrupted now number stamp address) = same_interrupt now number stamp address k
same_act k (written bs) = same_write bs k
same_act k (seeded_with now bs credit) = same_seed now bs credit k
same_act k (generator_read now len) = same_read now len k
same_act k (blocking_read_of n) = same_blocking n k

-- THE THEOREM. The plan tests the ledger and one timer beside the rest of the record, which is the whole test.
pub same : (k : Keeper) (c : Call) → told k c ≡ step k c
unfolding told step
same k c = obey-pick c _ _ _ k (same_act k c) (rests 17 c k) ∙ ap (λ (p : Plan). obey c p k) (sym (plan_at_is (view k) (public c)))
