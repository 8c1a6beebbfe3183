-- Wrong keepers, and that none of them is the keeper that the definitions describe: for each, one call, or two, at which it must differ. These
-- are the errors that look right and the keepers that a weak promise would let pass.
use mathlib.Core.Path.{◌≡◌, refl, ap, ◌∙◌}
use mathlib.Core.List.{List, [], ◌∷◌, zip_with}
use Prim.Native.Nat.{ℕ, ◌+◌, ◌*◌}
use native.Mathlib.Omega.{arith}
use lib.ListN.{get_or, replicate}
use Rattle.words.specs.Words.{rotl}
use Rattle.words.specs.Bytes.{le_bytes, le_number, words_bytes, bytes_words}
use Rattle.chacha.specs.Chacha.{line, quarter_round, inner_block, rounds, chacha_block}
use Rattle.ledger.specs.Choice.{pick}
use Rattle.ledger.specs.Credits.{further, credited, taken}
use Rattle.ledger.specs.Clocks.{signed}
use Rattle.ledger.specs.Marks.{blocking_counts, seeded_at}
use Rattle.ledger.specs.Range.{ledger_in_range, others_in_range, in_range}
use Rattle.pool.specs.Mixing.{twisted, tapped, mixed_words, mix}
use Rattle.pool.specs.Extracting.{hashed, pool_hash, extract_blocks}
use Rattle.keeper.specs.Generator.{xor_at, counted, stream, generated}
use Rattle.keeper.specs.Record.{fresh, with_ledger, with_generator, Outcome}
use Rattle.keeper.specs.Calls.{Call, interrupted, written, seeded_with, generator_read, blocking_read_of}
use Rattle.keeper.specs.Narrative.{credit_input, interrupt_call, write_call, seed_call, generate, read_call, transfer, deliver, blocking_call, act, told}
use Rattle.keeper.specs.declared.Keeper.{Keeper}

-- anything that takes calls, and one that is the keeper
abbrev pub Machine : Type 0
Machine = Keeper → Call → Outcome

abbrev pub Right : Machine → Type 0
Right W = (k : Keeper) (c : Call) → W k c ≡ told k c

-- ---- keepers to try it at: all zero; the same, seeded, whose first block is that of RFC 7539, A.1, vector 1; one with 640 units in the
-- blocking pool
abbrev blank : Keeper
blank = fresh (replicate 48 0)

abbrev seeded : Keeper
seeded = with_ledger (seeded_at 5 blank.ledger) blank

abbrev other : Keeper
other = with_generator (fresh (1 ∷ replicate 47 0)).generator seeded

abbrev filled : Keeper
filled = with_ledger (blocking_counts 640 blank.ledger) blank

abbrev after : Machine → Keeper → Keeper
after W k = (W k (generator_read 5 32)).keeper

-- the key's first word, and the low word of the counter
abbrev key : Keeper → ℕ
key k = get_or k.generator 4 0

abbrev low : Keeper → ℕ
low k = get_or k.generator 12 0

filled_gives : (told filled (blocking_read_of 10)).answer.number ≡ 0
unfolding told in_range others_in_range ledger_in_range act blocking_call deliver pick
filled_gives = refl

-- one that always blocks
pub always_blocks : (W : Machine) → ((k : Keeper) (n : ℕ) → (W k (blocking_read_of n)).answer.number ≡ 1) → Right W → ⊥
always_blocks W h r = omega (arith, h filled 10, ap (λ (o : Outcome). o.answer.number) (r filled (blocking_read_of 10)), filled_gives)

first_byte : get_or (told seeded (generator_read 5 1)).bytes 0 0 ≡ 0x76
unfolding told in_range others_in_range ledger_in_range act read_call generate generated stream counted xor_at bytes_words le_number words_bytes le_bytes chacha_block rounds inner_block quarter_round line rotl zip_with signed pick
first_byte = refl

other_byte : get_or (told other (generator_read 5 1)).bytes 0 0 ≡ 0xc5
unfolding told in_range others_in_range ledger_in_range act read_call generate generated stream counted xor_at bytes_words le_number words_bytes le_bytes chacha_block rounds inner_block quarter_round line rotl zip_with signed pick
other_byte = refl

-- one whose bytes are constant
pub constant-bytes : (W : Machine) → ((k k' : Keeper) (c : Call) → (W k c).bytes ≡ (W k' c).bytes) → Right W → ⊥
constant-bytes W h r =
    omega (arith, first_byte, other_byte, ap (λ (o : Outcome). get_or o.bytes 0 0) (r seeded (generator_read 5 1)), ap (λ (o : Outcome). get_or o.bytes 0 0) (r other (generator_read 5 1)), ap (λ (bs : List ℕ). get_or bs 0 0) (h seeded other (generator_read 5 1)))

mixed_word : get_or (told blank (written (1 ∷ []))).keeper.input 127 0 ≡ 0x3b6e20c8
unfolding told in_range others_in_range ledger_in_range act write_call mix mixed_words tapped twisted rotl pick
mixed_word = refl

-- one that never mixes
pub never_mixes : (W : Machine) → ((k : Keeper) (bs : List ℕ) → (W k (written bs)).keeper.input ≡ k.input) → Right W → ⊥
never_mixes W h r = omega (arith, mixed_word, ap (λ (o : Outcome). get_or o.keeper.input 127 0) (r blank (written (1 ∷ []))), ap (λ (ws : List ℕ). get_or ws 127 0) (h blank (1 ∷ [])))

key_first : key (after told seeded) ≡ 0x7c5941da
unfolding told in_range others_in_range ledger_in_range act read_call generate generated stream counted xor_at bytes_words le_number words_bytes le_bytes chacha_block rounds inner_block quarter_round line rotl zip_with signed pick
key_first = refl

key_second : key (after told (after told seeded)) ≡ 0xaa657631
unfolding told in_range others_in_range ledger_in_range act read_call generate generated stream counted xor_at bytes_words le_number words_bytes le_bytes chacha_block rounds inner_block quarter_round line rotl zip_with signed pick
key_second = refl

-- one that changes the key after the first read only
pub key_once : (W : Machine) → ((k : Keeper) → key (after W (after W k)) ≡ key (after W k)) → Right W → ⊥
key_once W h r =
    let a : after W seeded ≡ after told seeded = ap (λ (o : Outcome). o.keeper) (r seeded (generator_read 5 32)) in
    let b : key (after W (after W seeded)) ≡ key (after told (after told seeded)) = ap (λ (o : Outcome). key o.keeper) (r (after W seeded) (generator_read 5 32)) ∙ ap (λ (k : Keeper). key (after told k)) a in
    omega (arith, key_first, key_second, h seeded, b, ap key a)

blocks_32 : (told seeded (generator_read 5 32)).answer.blocks ≡ 1
unfolding told in_range others_in_range ledger_in_range act read_call generate generated stream signed pick
blocks_32 = refl

blocks_33 : (told seeded (generator_read 5 33)).answer.blocks ≡ 2
unfolding told in_range others_in_range ledger_in_range act read_call generate generated stream signed pick
blocks_33 = refl

-- one that reports a fixed work count
pub fixed_work : (W : Machine) → ((k k' : Keeper) (c c' : Call) → (W k c).answer.blocks ≡ (W k' c').answer.blocks) → Right W → ⊥
fixed_work W h r = omega (arith, blocks_32, blocks_33, h seeded seeded (generator_read 5 32) (generator_read 5 33), ap (λ (o : Outcome). o.answer.blocks) (r seeded (generator_read 5 32)), ap (λ (o : Outcome). o.answer.blocks) (r seeded (generator_read 5 33)))

two_runs : (told filled (blocking_read_of 10)).answer.compressions ≡ 2
unfolding told in_range others_in_range ledger_in_range act blocking_call deliver transfer taken credited further extract_blocks pool_hash hashed pick
two_runs = refl

no_runs : (told blank (written [])).answer.compressions ≡ 0
unfolding told in_range others_in_range ledger_in_range act write_call pick
no_runs = refl

-- .. nor one whose compressions are fixed
pub fixed_compressions : (W : Machine) → ((k k' : Keeper) (c c' : Call) → (W k c).answer.compressions ≡ (W k' c').answer.compressions) → Right W → ⊥
fixed_compressions W h r = omega (arith, two_runs, no_runs, h filled blank (blocking_read_of 10) (written []), ap (λ (o : Outcome). o.answer.compressions) (r filled (blocking_read_of 10)), ap (λ (o : Outcome). o.answer.compressions) (r blank (written [])))

six_units : (told blank (seeded_with 0 (0 ∷ []) 1)).keeper.ledger.input.count ≡ 6
unfolding told in_range others_in_range ledger_in_range act seed_call credit_input credited further pick
six_units = refl

-- one that adds a credit in full
pub credit_in_full : (W : Machine) → ((k : Keeper) (now : ℕ) (bs : List ℕ) (n : ℕ) → (W k (seeded_with now bs n)).keeper.ledger.input.count ≡ k.ledger.input.count + 8 * n) → Right W → ⊥
credit_in_full W h r = omega (arith, six_units, h blank 0 (0 ∷ []) 1, ap (λ (o : Outcome). o.keeper.ledger.input.count) (r blank (seeded_with 0 (0 ∷ []) 1)))

counter-first : low (after told seeded) ≡ 1
unfolding told in_range others_in_range ledger_in_range act read_call generate generated stream counted xor_at bytes_words le_number words_bytes le_bytes chacha_block rounds inner_block quarter_round line rotl zip_with signed pick
counter-first = refl

counter_second : low (after told (after told seeded)) ≡ 2
unfolding told in_range others_in_range ledger_in_range act read_call generate generated stream counted xor_at bytes_words le_number words_bytes le_bytes chacha_block rounds inner_block quarter_round line rotl zip_with signed pick
counter_second = refl

-- one that starts the counter again at each read
pub counter_restarts : (W : Machine) → ((k k' : Keeper) → low (after W k) ≡ low (after W k')) → Right W → ⊥
counter_restarts W h r =
    let a : after W seeded ≡ after told seeded = ap (λ (o : Outcome). o.keeper) (r seeded (generator_read 5 32)) in
    let b : low (after W (after told seeded)) ≡ low (after told (after told seeded)) = ap (λ (o : Outcome). low o.keeper) (r (after told seeded) (generator_read 5 32)) in
    omega (arith, counter-first, counter_second, h seeded (after told seeded), b, ap low a)

even_key : key (told seeded (generator_read 5 64)).keeper ≡ 0xbee7079f
unfolding told in_range others_in_range ledger_in_range act read_call generate generated stream counted xor_at bytes_words le_number words_bytes le_bytes chacha_block rounds inner_block quarter_round line rotl zip_with signed pick
even_key = refl

key_blank : key seeded ≡ 0
unfolding bytes_words le_number
key_blank = refl

-- one that skips the key change when a block came out even
pub even_skipped : (W : Machine) → ((k : Keeper) (now : ℕ) → key (W k (generator_read now 64)).keeper ≡ key k) → Right W → ⊥
even_skipped W h r = omega (arith, even_key, key_blank, h seeded 5, ap (λ (o : Outcome). key o.keeper) (r seeded (generator_read 5 64)))

stirred_once : (told blank (interrupted 0xffffffff 0 0 0)).keeper.ledger.spill.tally ≡ 1
unfolding told in_range others_in_range ledger_in_range act interrupt_call signed pick
stirred_once = refl

-- one that counts a clock that ran back as a long wait: an interrupt one tick before the last spill spills
pub back_is_long : (W : Machine) → ((k : Keeper) (number stamp address : ℕ) → k.ledger.spill.clock ≡ 0 → (W k (interrupted 0xffffffff number stamp address)).keeper.ledger.spill.tally ≡ 0) → Right W → ⊥
back_is_long W h r = omega (arith, stirred_once, h blank 0 0 0 refl, ap (λ (o : Outcome). o.keeper.ledger.spill.tally) (r blank (interrupted 0xffffffff 0 0 0)))
