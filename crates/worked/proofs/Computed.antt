-- The definitions compute. One whole call of each kind, worked out by the checker from the definitions alone, gives the numbers that
-- were worked out beside them from the paper and, for the generator, those that RFC 7539 publishes in section 2.3.2.
use mathlib.Core.Path.{◌≡◌, refl}
use mathlib.Core.List.{List, [], ◌∷◌, ◌++◌, zip_with}
use Prim.Native.Nat.{ℕ, zero, suc, ◌+◌, ◌*◌}
use lib.IntN.{pos}
use lib.ListN.{take, drop, replicate}
use Rattle.words.specs.Words.{rotl}
use Rattle.words.specs.Bytes.{le_bytes, le_number, swapped, words_bytes, bytes_words}
use Rattle.chacha.specs.Chacha.{line, quarter_round, inner_block, rounds, chacha_block}
use Rattle.secure_hash.specs.Sha1.{ch, parity, maj, mix as Sha1·mix, constant, initial_hash, next_word, schedule, step, run, compressed}
use Rattle.ledger.specs.Choice.{pick}
use Rattle.ledger.specs.Credits.{further, credited, taken}
use Rattle.ledger.specs.Clocks.{signed, log2, estimate, event_bits}
use Rattle.ledger.specs.Marks.{input_counts, blocking_counts, seeded_at}
use Rattle.ledger.specs.Range.{ledger_in_range, others_in_range, in_range, fixed_words}
use Rattle.pool.specs.Mixing.{twisted, tapped, mixed_words, mix}
use Rattle.pool.specs.Extracting.{hashed, pool_hash, folded, extract_blocks}
use Rattle.keeper.specs.FastPool.{stirred}
use Rattle.keeper.specs.Generator.{xor_at, counted, stream, generated}
use Rattle.keeper.specs.Record.{fresh, with_ledger, with_timer, with_input_pool, with_blocking_pool, with_fast, with_generator, Outcome}
use Rattle.keeper.specs.Calls.{device_event, interrupted, written, seeded_with, generator_read, blocking_read_of}
use Rattle.keeper.specs.Narrative.{reseed, credit_input, event_call, interrupt_call, write_call, seed_call, generate, read_call, transfer, deliver, blocking_call, act, told}
use Rattle.keeper.specs.declared.Keeper.{Keeper}

abbrev zero48 : Keeper
zero48 = fresh (replicate 48 0)

-- number, delivered, ChaCha20 blocks, compressions, units added, input count, blocking count, input position and rotation
abbrev line9 : Outcome → List ℕ
line9 o =
    o.answer.number ∷ o.answer.delivered ∷ o.answer.blocks ∷ o.answer.compressions ∷ o.answer.added ∷ o.keeper.ledger.input.count ∷ o.keeper.ledger.blocking.count
    ∷ o.keeper.ledger.input.spot.at ∷ o.keeper.ledger.input.spot.turn ∷ []

-- a device event on a keeper of which three events of that device came: 16 bytes mixed, 10 bits credited. A fresh keeper mixes the same bytes
-- and credits nothing
abbrev known : Keeper
known = with_timer 1 (record { clock = 0; d1 = pos 0; d2 = pos 0; came = 3 }) zero48

abbrev event : Keeper → Outcome
event k = told k (device_event 1 1500 0x0123456789abcdef 7)

abbrev mixed : List ℕ
mixed =
    0x452638f9 ∷ 0x44a2cd0b ∷ 0x4885629b ∷ 0x29b81e1b ∷ 0x96c1f699 ∷ 0x6d29a14e ∷ 0xdfaf06f2 ∷ 0xcbcd28d7
    ∷ 0x34dc59fd ∷ 0x7d91c9a9 ∷ 0x5a6ccdca ∷ 0xbef566bb ∷ 0x87fc2619 ∷ 0xf5e7254e ∷ 0xc2d7f374 ∷ 0xa00ae265 ∷ []

pub event_computes :
    (line9 (event zero48)) ∷ (take 3 (event zero48).keeper.came) ∷ (line9 (event known)) ∷ (take 3 (event known).keeper.came) ∷ (drop 112 (event known).keeper.input) ∷ (drop 112 (event zero48).keeper.input) ∷ []
    ≡ (0 ∷ 0 ∷ 0 ∷ 0 ∷ 0 ∷ 0 ∷ 0 ∷ 112 ∷ 16 ∷ []) ∷ (0 ∷ 1 ∷ 0 ∷ []) ∷ (0 ∷ 0 ∷ 0 ∷ 0 ∷ 60 ∷ 60 ∷ 0 ∷ 112 ∷ 16 ∷ []) ∷ (0 ∷ 3 ∷ 0 ∷ []) ∷ mixed ∷ mixed ∷ []
unfolding told in_range others_in_range ledger_in_range act event_call credit_input event_bits estimate log2 signed credited further mix mixed_words tapped twisted rotl le_bytes pick
event_computes = refl

-- an interrupt that only stirs
pub interrupt_computes :
    (line9 (told zero48 (interrupted 5 9 0x0123456789abcdef 0xfedcba9876543210))) ∷ (told zero48 (interrupted 5 9 0x0123456789abcdef 0xfedcba9876543210)).keeper.fast ∷ []
    ≡ (0 ∷ 0 ∷ 0 ∷ 0 ∷ 0 ∷ 0 ∷ 0 ∷ 0 ∷ 0 ∷ []) ∷ (0x2628c4f4 ∷ 0x5c023703 ∷ 0x42ddd036 ∷ 0xe005f622 ∷ []) ∷ []
unfolding told in_range others_in_range ledger_in_range act interrupt_call stirred signed rotl pick
interrupt_computes = refl

-- an interrupt past 1,000 ticks on a fast pool that holds something: it stirs, spills its 16 bytes, and earns a bit
abbrev spill : Outcome
spill = told (with_fast (1 ∷ 2 ∷ 3 ∷ 4 ∷ []) zero48) (interrupted 1001 9 0x0123456789abcdef 0xfedcba9876543210)

pub spill_computes :
    (line9 spill) ∷ spill.keeper.fast ∷ (spill.keeper.ledger.spill.tally ∷ spill.keeper.ledger.spill.clock ∷ []) ∷ (drop 112 spill.keeper.input) ∷ []
    ≡ (0 ∷ 0 ∷ 0 ∷ 0 ∷ 6 ∷ 6 ∷ 0 ∷ 112 ∷ 16 ∷ []) ∷ (0x5cb2b802 ∷ 0xdb3cc1d8 ∷ 0xab1527e4 ∷ 0x7e3a3cf6 ∷ []) ∷ (0 ∷ 1001 ∷ [])
    ∷ (0x9ac4a3f3 ∷ 0x0d03f61e ∷ 0x681fb018 ∷ 0x161f8c43 ∷ 0xbf9c6218 ∷ 0xfca16307 ∷ 0x88cf047c ∷ 0x1d5e3675
    ∷ 0x0ef1b3a8 ∷ 0x763b9d40 ∷ 0x073e1682 ∷ 0x39f0b218 ∷ 0x94f4968c ∷ 0x7702a1e6 ∷ 0x0edb83b2 ∷ 0x76dc4190 ∷ []) ∷ []
unfolding told in_range others_in_range ledger_in_range act interrupt_call stirred credit_input credited further mix mixed_words tapped twisted rotl words_bytes le_bytes signed pick
spill_computes = refl

-- a write of three bytes
pub write_computes :
    (line9 (told zero48 (written (1 ∷ 2 ∷ 255 ∷ [])))) ∷ (drop 125 (told zero48 (written (1 ∷ 2 ∷ 255 ∷ []))).keeper.input) ∷ []
    ≡ (0 ∷ 0 ∷ 0 ∷ 0 ∷ 0 ∷ 0 ∷ 0 ∷ 125 ∷ 21 ∷ []) ∷ (0x3b84604f ∷ 0x076dc439 ∷ 0x3b6e20c8 ∷ []) ∷ []
unfolding told in_range others_in_range ledger_in_range act write_call mix mixed_words tapped twisted rotl pick
write_computes = refl

-- a seed of the same bytes, with all their 24 bits
pub seed_computes :
    (line9 (told zero48 (seeded_with 0 (1 ∷ 2 ∷ 255 ∷ []) 24))) ∷ (drop 125 (told zero48 (seeded_with 0 (1 ∷ 2 ∷ 255 ∷ []) 24)).keeper.input) ∷ []
    ≡ (0 ∷ 0 ∷ 0 ∷ 0 ∷ 144 ∷ 144 ∷ 0 ∷ 125 ∷ 21 ∷ []) ∷ (0x3b84604f ∷ 0x076dc439 ∷ 0x3b6e20c8 ∷ []) ∷ []
unfolding told in_range others_in_range ledger_in_range act seed_call credit_input credited further mix mixed_words tapped twisted rotl pick
seed_computes = refl

-- a seed of 22 bytes with 171 bits, which seeds the keeper: 16 bytes taken, 16 compressions, 2 units left, four words of the key changed
abbrev seeding : Outcome
seeding = told zero48 (seeded_with 9 (0 ∷ 1 ∷ 2 ∷ 3 ∷ 4 ∷ 5 ∷ 6 ∷ 7 ∷ 8 ∷ 9 ∷ 10 ∷ 11 ∷ 12 ∷ 13 ∷ 14 ∷ 15 ∷ 16 ∷ 17 ∷ 18 ∷ 19 ∷ 20 ∷ 21 ∷ []) 171)

pub seeding_computes :
    (line9 seeding) ∷ (take 5 (drop 4 seeding.keeper.generator)) ∷ (seeding.keeper.ledger.seeding.clock ∷ []) ∷ []
    ≡ (0 ∷ 0 ∷ 0 ∷ 16 ∷ 1026 ∷ 2 ∷ 0 ∷ 66 ∷ 18 ∷ []) ∷ (0x041192b6 ∷ 0xbf685517 ∷ 0xcbfa167e ∷ 0xdd01c9c1 ∷ 0 ∷ []) ∷ (9 ∷ []) ∷ []
unfolding told in_range others_in_range ledger_in_range act seed_call credit_input reseed taken credited further extract_blocks pool_hash hashed folded compressed initial_hash run step schedule next_word constant Sha1·mix ch parity maj swapped le_number le_bytes words_bytes bytes_words xor_at mix mixed_words tapped twisted rotl zip_with pick
seeding_computes = refl

-- a seed of 24 bytes with 192 bits: 18 bytes taken, of which the last two go onto the low half of the key's fifth word
abbrev seeding18 : Outcome
seeding18 = told zero48 (seeded_with 9 (0 ∷ 1 ∷ 2 ∷ 3 ∷ 4 ∷ 5 ∷ 6 ∷ 7 ∷ 8 ∷ 9 ∷ 10 ∷ 11 ∷ 12 ∷ 13 ∷ 14 ∷ 15 ∷ 16 ∷ 17 ∷ 18 ∷ 19 ∷ 20 ∷ 21 ∷ 22 ∷ 23 ∷ []) 192)

pub short_seeding_computes :
    (line9 seeding18) ∷ (take 8 (drop 4 seeding18.keeper.generator)) ∷ []
    ≡ (0 ∷ 0 ∷ 0 ∷ 16 ∷ 1152 ∷ 0 ∷ 0 ∷ 64 ∷ 0 ∷ []) ∷ (0xf2511c58 ∷ 0x2c373080 ∷ 0x89e29f44 ∷ 0xba940af3 ∷ 0x0000be71 ∷ 0 ∷ 0 ∷ 0 ∷ []) ∷ []
unfolding told in_range others_in_range ledger_in_range act seed_call credit_input reseed taken credited further extract_blocks pool_hash hashed folded compressed initial_hash run step schedule next_word constant Sha1·mix ch parity maj swapped le_number le_bytes words_bytes bytes_words xor_at mix mixed_words tapped twisted rotl zip_with pick
short_seeding_computes = refl

-- a generator read of 32 bytes from the state of RFC 7539, section 2.3.2: the block's first half is handed out, its second half is
-- xored onto the key, and the counter moves on by one
abbrev rfc : Keeper
rfc =
    with_generator
    (fixed_words ++ (0x03020100 ∷ 0x07060504 ∷ 0x0b0a0908 ∷ 0x0f0e0d0c ∷ 0x13121110 ∷ 0x17161514 ∷ 0x1b1a1918 ∷ 0x1f1e1d1c
    ∷ 0x00000001 ∷ 0x09000000 ∷ 0x4a000000 ∷ 0x00000000 ∷ []))
    (with_ledger (seeded_at 0 zero48.ledger) zero48)

abbrev read32 : Outcome
read32 = told rfc (generator_read 0 32)

pub read_computes :
    (line9 read32) ∷ read32.bytes ∷ (drop 4 read32.keeper.generator) ∷ []
    ≡ (0 ∷ 32 ∷ 1 ∷ 0 ∷ 0 ∷ 0 ∷ 0 ∷ 0 ∷ 0 ∷ []) ∷ (0x10 ∷ 0xf1 ∷ 0xe7 ∷ 0xe4 ∷ 0xd1 ∷ 0x3b ∷ 0x59 ∷ 0x15 ∷ 0x50 ∷ 0x0f ∷ 0xdd ∷ 0x1f ∷ 0xa3 ∷ 0x20 ∷ 0x71 ∷ 0xc4
    ∷ 0xc7 ∷ 0xd1 ∷ 0xf4 ∷ 0xc7 ∷ 0x33 ∷ 0xc0 ∷ 0x68 ∷ 0x03 ∷ 0x04 ∷ 0x22 ∷ 0xaa ∷ 0x9a ∷ 0xc3 ∷ 0xd4 ∷ 0x6c ∷ 0x4e ∷ []) ∷ (0x456683d2 ∷ 0x0eac9a03 ∷ 0x0eddcb1c ∷ 0xad0c86d5 ∷ 0xc28e03a5 ∷ 0xae5803ca ∷ 0xf399c9d3 ∷ 0x51224dbe
    ∷ 0x00000002 ∷ 0x09000000 ∷ 0x4a000000 ∷ 0x00000000 ∷ []) ∷ []
unfolding told in_range others_in_range ledger_in_range act read_call generate generated stream counted xor_at bytes_words le_number words_bytes le_bytes chacha_block rounds inner_block quarter_round line rotl zip_with signed pick
read_computes = refl

-- a read of 13 bytes from the same state, whose key comes from byte 16 on, and then one of 9, whose key comes from byte 12 on
abbrev read13 : Outcome
read13 = told rfc (generator_read 0 13)

abbrev read9 : Outcome
read9 = told read13.keeper (generator_read 0 9)

pub odd_reads_compute :
    (line9 read13) ∷ read13.bytes ∷ read13.keeper.generator ∷ (line9 read9) ∷ read9.bytes ∷ read9.keeper.generator ∷ []
    ≡ (0 ∷ 13 ∷ 1 ∷ 0 ∷ 0 ∷ 0 ∷ 0 ∷ 0 ∷ 0 ∷ []) ∷ (0x10 ∷ 0xf1 ∷ 0xe7 ∷ 0xe4 ∷ 0xd1 ∷ 0x3b ∷ 0x59 ∷ 0x15 ∷ 0x50 ∷ 0x0f ∷ 0xdd ∷ 0x1f ∷ 0xa3 ∷ [])
    ∷ (0x61707865 ∷ 0x3320646e ∷ 0x79622d32 ∷ 0x6b206574 ∷ 0xc4f6d0c7 ∷ 0x046ec537 ∷ 0x91a02b0c ∷ 0x4162d9cf
    ∷ 0x557693c2 ∷ 0x1ebc8a13 ∷ 0x1ecddb0c ∷ 0xbd1c96c5 ∷ 0x00000002 ∷ 0x09000000 ∷ 0x4a000000 ∷ 0x00000000 ∷ [])
    ∷ (0 ∷ 9 ∷ 1 ∷ 0 ∷ 0 ∷ 0 ∷ 0 ∷ 0 ∷ 0 ∷ []) ∷ (0x33 ∷ 0x2e ∷ 0xab ∷ 0xc9 ∷ 0xa4 ∷ 0x58 ∷ 0x9c ∷ 0x96 ∷ 0x77 ∷ [])
    ∷ (0x61707865 ∷ 0x3320646e ∷ 0x79622d32 ∷ 0x6b206574 ∷ 0xe7cf6eb2 ∷ 0x5b3f645f ∷ 0x12cc8f99 ∷ 0x3105bec7
    ∷ 0x784d3671 ∷ 0x7b7aa9a7 ∷ 0x5c904783 ∷ 0xe7e2fe91 ∷ 0x00000003 ∷ 0x09000000 ∷ 0x4a000000 ∷ 0x00000000 ∷ []) ∷ []
unfolding told in_range others_in_range ledger_in_range act read_call generate generated stream counted xor_at bytes_words le_number words_bytes le_bytes chacha_block rounds inner_block quarter_round line rotl zip_with signed pick
odd_reads_compute = refl

-- a blocking read of 10 bytes from a pool that has them: one extraction block, two compressions, 20 bytes mixed back
abbrev filled : Keeper
filled =
    with_ledger (blocking_counts 640 zero48.ledger)
    (with_blocking_pool
    (record {
      words = 1 ∷ 2 ∷ 3 ∷ 4 ∷ 5 ∷ 6 ∷ 7 ∷ 8 ∷ 9 ∷ 10 ∷ 11 ∷ 12 ∷ 13 ∷ 14 ∷ 15 ∷ 16 ∷ 17 ∷ 18 ∷ 19 ∷ 20 ∷ 21 ∷ 22 ∷ 23 ∷ 24 ∷ 25 ∷ 26 ∷ 27 ∷ 28 ∷ 29 ∷ 30 ∷ 31 ∷ 32 ∷ [];
      spot = record { at = 0; turn = 0 };
    })
    zero48)

abbrev drawn : Outcome
drawn = told filled (blocking_read_of 10)

pub blocking_computes :
    (line9 drawn) ∷ drawn.bytes ∷ (drop 12 drawn.keeper.blocking) ∷ []
    ≡ (0 ∷ 10 ∷ 0 ∷ 2 ∷ 0 ∷ 0 ∷ 0 ∷ 0 ∷ 0 ∷ []) ∷ (0x53 ∷ 0x02 ∷ 0xa3 ∷ 0x67 ∷ 0x07 ∷ 0x2d ∷ 0x6f ∷ 0xfb ∷ 0x7c ∷ 0x11 ∷ []) ∷ (0x503a4bed ∷ 0xb491b84e ∷ 0x90764e75 ∷ 0x8c7cfff7 ∷ 0x99af293e ∷ 0x68621202 ∷ 0xdf9dc7ca ∷ 0xb4b4aae5 ∷ 0x3a4a5e8e ∷ 0x07de9375
    ∷ 0x89c2858b ∷ 0x3d557f23 ∷ 0x5cb31817 ∷ 0xfeef8bee ∷ 0x9ab81a7e ∷ 0x0ee6c155 ∷ 0xb7360aa8 ∷ 0xa8674692 ∷ 0x4369e749 ∷ 0x76dc4194 ∷ []) ∷ []
unfolding told in_range others_in_range ledger_in_range act blocking_call deliver transfer taken credited further extract_blocks pool_hash hashed folded compressed initial_hash run step schedule next_word constant Sha1·mix ch parity maj swapped le_number le_bytes words_bytes mix mixed_words tapped twisted rotl zip_with pick
blocking_computes = refl

-- a blocking read of 3 bytes that has to fetch: 8 bytes come over from the input pool (8 compressions), 393 units then stand in the
-- blocking pool, and 3 bytes of it are handed out (2 compressions)
abbrev sevens : ℕ → List ℕ
sevens zero = []
sevens (suc n) = sevens n ++ ((7 * n + 1) ∷ [])

abbrev lean : Keeper
lean = with_ledger (input_counts 512 (blocking_counts 10 zero48.ledger)) (with_input_pool (record { words = sevens 128; spot = record { at = 0; turn = 0 } }) zero48)

abbrev fetched : Outcome
fetched = told lean (blocking_read_of 3)

pub fetch_computes :
    (line9 fetched) ∷ fetched.bytes ∷ (fetched.keeper.ledger.blocking.spot.at ∷ fetched.keeper.ledger.blocking.spot.turn ∷ []) ∷ (drop 108 fetched.keeper.input) ∷ []
    ≡ (0 ∷ 3 ∷ 0 ∷ 10 ∷ 383 ∷ 0 ∷ 201 ∷ 108 ∷ 12 ∷ []) ∷ (0xb8 ∷ 0x1e ∷ 0x86 ∷ []) ∷ (4 ∷ 4 ∷ [])
    ∷ (0x0a08dc30 ∷ 0x5046f02f ∷ 0x2fa48a56 ∷ 0xe8d554e4 ∷ 0x2b60be04 ∷ 0x8075360a ∷ 0xd88fa638 ∷ 0x1ac82f17 ∷ 0xd6c17904 ∷ 0x00a7d642 ∷ 0x053e929a ∷ 0xa9f495e8 ∷ 0x0cf3bddf ∷ 0x6763ef9b ∷ 0x8dfed90c ∷ 0xb4d0dab7 ∷ 0x66d1c7ad ∷ 0x858c3015 ∷ 0xf762574c ∷ 0xd6d6a3a1 ∷ []) ∷ []
unfolding told in_range others_in_range ledger_in_range act blocking_call deliver transfer taken credited further extract_blocks pool_hash hashed folded compressed initial_hash run step schedule next_word constant Sha1·mix ch parity maj swapped le_number le_bytes words_bytes mix mixed_words tapped twisted rotl zip_with pick
fetch_computes = refl
