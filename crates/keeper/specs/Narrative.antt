-- The calls, told step by step in the paper's order, refusals first.
use Rattle.std.specs.Prelude.{◌&&◌, not, List, ℕ, ◌+◌, ◌*◌, ltb, leb, eqb, length}
use Rattle.words.specs.Bytes.{words_bytes}
use Rattle.ledger.specs.Choice.{pick}
use Rattle.ledger.specs.Sizes.{devices, longest}
use Rattle.ledger.specs.Numbers.{done, would_block, unseeded, too_long, no_such_device, credit_too_high, repeated, out_of_range}
use Rattle.ledger.specs.Shapes.{input_shape, blocking_shape}
use Rattle.ledger.specs.Credits.{crediting, taken, debited, reseed_takes, transfer_takes}
use Rattle.ledger.specs.Clocks.{next_timer, event_bits}
use Rattle.ledger.specs.Marks.{is_seeded, input_counts, blocking_counts, seeded_at, valued, tallied, spilled, stays, reseed_due, is_low}
use Rattle.ledger.specs.declared.Ledger.{Ledger}
use Rattle.pool.specs.Mixing.{mix}
use Rattle.pool.specs.Extracting.{Extract, extract}
use Rattle.keeper.specs.FastPool.{stirred}
use Rattle.keeper.specs.Generator.{onto_key, generated}
use Rattle.keeper.specs.Record.{input_pool, blocking_pool, device_timer, with_ledger, with_timer, with_input_pool, with_blocking_pool, with_fast, with_generator, fine, Outcome, refused, Run, reached, adding, finished}
use Rattle.keeper.specs.Calls.{Call, device_event, interrupted, written, seeded_with, generator_read, blocking_read_of, event_bytes}
use Rattle.keeper.specs.declared.Keeper.{Keeper}

-- ---- steps that several calls share
-- the ledger's marks are changed
abbrev pub marking : (Ledger → Ledger) → Keeper → Keeper
marking f k = with_ledger (f k.ledger) k

abbrev pub mix_input : List ℕ → Keeper → Keeper
mix_input bs k = with_input_pool (mix input_shape (input_pool k) bs) k

-- a count becomes c
abbrev pub recount_input : ℕ → Keeper → Keeper
recount_input c k = marking (input_counts c) k

abbrev pub recount_blocking : ℕ → Keeper → Keeper
recount_blocking c k = marking (blocking_counts c) k

-- t bytes taken from the input pool: the count falls by 64 for each
abbrev pub debit_input : ℕ → Keeper → Keeper
debit_input t k = recount_input (debited t k.ledger.input.count) k

-- t bytes extracted go onto the key; the seeding clock becomes `now`; the keeper is seeded for good
abbrev pub rekey : ℕ → Extract → Keeper → Keeper
rekey now e k = marking (seeded_at now) (with_generator (onto_key e.bytes k.generator) (with_input_pool e.pool k))

-- reseed: debit the input pool, 32 wanted, least 16; if none is taken, nothing changes
unfoldable pub reseed : ℕ → Keeper → Run
reseed now k =
    let t = reseed_takes k.ledger.input.count in
    let e = extract input_shape t (input_pool k) in
    pick (eqb t 0) (reached k) (record { keeper = rekey now e (debit_input t k); compressions = e.runs; added = 0 })

-- credit n bits to the input pool, which tells the units added; after n > 0, an unseeded keeper with a count of 1,024 or more reseeds
unfoldable pub credit_input : ℕ → ℕ → Keeper → Run
credit_input now n k =
    let c = crediting input_shape.size n k.ledger.input.count in
    let k₁ = recount_input c.count k in
    adding c.added (pick (eqb n 0) (reached k) (pick (not (is_seeded k.ledger) && leb 1024 c.count) (reseed now k₁) (reached k₁)))

-- ---- device event
unfoldable pub event_call : ℕ → ℕ → ℕ → ℕ → Keeper → Outcome
event_call device now stamp value k =
    let t = device_timer k device in
    let k₁ = mix_input (event_bytes stamp now value) k in
    let k₂ = marking (valued device value) (with_timer device (next_timer now t) k₁) in
    pick (leb devices device) (refused no_such_device k)
    (pick (eqb device 0 && eqb value k.ledger.value) (refused repeated k) (finished (credit_input now (event_bits now t) k₂)))

-- ---- interrupt
unfoldable pub interrupt_call : ℕ → ℕ → ℕ → ℕ → Keeper → Outcome
interrupt_call now number stamp address k =
    let f = stirred now number stamp address k.fast in
    let k₁ = with_fast f k in
    let k₂ = marking (spilled now) (mix_input (words_bytes f) k₁) in
    pick (stays now k.ledger) (finished (reached (marking tallied k₁))) (finished (credit_input now 1 k₂))

-- ---- write: mix all bytes; no credit
unfoldable pub write_call : List ℕ → Keeper → Outcome
write_call bs k = pick (ltb longest (length bs)) (refused too_long k) (finished (reached (mix_input bs k)))

-- ---- seed: mix all bytes, then credit the named bits
unfoldable pub seed_call : ℕ → List ℕ → ℕ → Keeper → Outcome
seed_call now bs credit k =
    pick (ltb longest (length bs)) (refused too_long k)
    (pick (ltb (8 * length bs) credit) (refused credit_too_high k) (finished (credit_input now credit (mix_input bs k))))

-- ---- generator read
-- bytes are made and delivered, and the key is changed
unfoldable pub generate : ℕ → Run → Outcome
generate len w =
    let s = generated len w.keeper.generator in
    record {
      keeper = with_generator s.generator w.keeper;
      answer = record { number = done; delivered = length s.bytes; blocks = s.blocks; compressions = w.compressions; added = w.added };
      bytes = s.bytes;
    }

unfoldable pub read_call : ℕ → ℕ → Keeper → Outcome
read_call now len k =
    pick (ltb longest len) (refused too_long k)
    (pick (eqb len 0) (finished (reached k))
    (pick (not (is_seeded k.ledger)) (refused unseeded k) (generate len (pick (reseed_due now k.ledger) (reseed now k) (reached k)))))

-- ---- blocking read
-- t bytes from the input pool are mixed into the blocking pool, and eight bits a byte credited there, which tells the units added
unfoldable pub transfer : ℕ → Keeper → Run
transfer t k =
    let e = extract input_shape t (input_pool k) in
    let k₁ = with_input_pool e.pool (debit_input t k) in
    let k₂ = with_blocking_pool (mix blocking_shape (blocking_pool k₁) e.bytes) k₁ in
    let c = crediting blocking_shape.size (8 * t) k₂.ledger.blocking.count in
    record { keeper = recount_blocking c.count k₂; compressions = e.runs; added = c.added }

-- the blocking pool is debited for n, least 0; what was taken is extracted and delivered
unfoldable pub deliver : ℕ → Run → Outcome
deliver n w =
    let l = w.keeper.ledger in
    let d = taken n 0 l.blocking.count in
    let e = extract blocking_shape d (blocking_pool w.keeper) in
    record {
      keeper = with_blocking_pool e.pool (recount_blocking (debited d l.blocking.count) w.keeper);
      answer = record { number = done; delivered = length e.bytes; blocks = 0; compressions = w.compressions + e.runs; added = w.added };
      bytes = e.bytes;
    }

unfoldable pub blocking_call : ℕ → Keeper → Outcome
blocking_call n k =
    let t = pick (ltb k.ledger.blocking.count (64 * n)) (transfer_takes n k.ledger.input.count) 0 in
    pick (ltb longest n) (refused too_long k)
    (pick (eqb n 0) (finished (reached k)) (pick (is_low k.ledger) (refused would_block k) (deliver n (transfer t k))))

-- ---- every call on a made keeper tests 17 first
unfoldable pub act : Keeper → Call → Outcome
act k (device_event device now stamp value) = event_call device now stamp value k
act k (interrupted now number stamp address) = interrupt_call now number stamp address k
act k (written bs) = write_call bs k
act k (seeded_with now bs credit) = seed_call now bs credit k
act k (generator_read now len) = read_call now len k
act k (blocking_read_of n) = blocking_call n k

unfoldable pub told : Keeper → Call → Outcome
told k c = pick (fine k) (act k c) (refused out_of_range k)
