-- Whole transcripts, worked out by the checker from the definitions alone, byte by byte: the example of the paper, and a journal with a record
-- of each kind but a write, whose last line has two different counts. What they must be was written by the second program.
use mathlib.Core.Path.{◌≡◌, refl}
use mathlib.Core.List.{List, [], ◌∷◌, ◌++◌, zip_with}
use Prim.Native.Nat.{ℕ}
use lib.ListN.{replicate}
use Rattle.words.specs.Words.{rotl}
use Rattle.words.specs.Bytes.{le_bytes, le_number, swapped, words_bytes, bytes_words}
use Rattle.chacha.specs.Chacha.{line, quarter_round, inner_block, rounds, chacha_block}
use Rattle.secure_hash.specs.Sha1.{ch, parity, maj, mix as Sha1·mix, constant, initial_hash, next_word, schedule, step, run, compressed}
use Rattle.ledger.specs.Choice.{pick}
use Rattle.ledger.specs.Credits.{further, credited, taken}
use Rattle.ledger.specs.Clocks.{signed, log2, estimate, event_bits}
use Rattle.ledger.specs.Range.{ledger_in_range, others_in_range, in_range}
use Rattle.pool.specs.Mixing.{twisted, tapped, mixed_words, mix}
use Rattle.pool.specs.Extracting.{hashed, pool_hash, folded, extract_blocks}
use Rattle.keeper.specs.FastPool.{stirred}
use Rattle.keeper.specs.Generator.{xor_at, counted, stream, generated}
use Rattle.keeper.specs.Narrative.{reseed, credit_input, event_call, interrupt_call, seed_call, generate, read_call, transfer, deliver, blocking_call, act, told}
use Rattle.keeper.specs.Demands.{outcomes}
use Rattle.journal.specs.Layout.{device_bytes, devices_in, widths, sum, record_of, carries}
use Rattle.journal.specs.Reading.{fields_in, carrying, opened, front, read_at}
use Rattle.journal.specs.Writing.{carried_by}
use Rattle.journal.specs.Header.{known, refusal_within, header_within, header_of, start_of}
use Rattle.journal.specs.Walking.{walk_from, walk, behind, walk_of}
use Rattle.transcript.specs.Text.{digits, word_of, glyph_of, hex_of, tail_of}
use Rattle.transcript.specs.Lines.{line_of, end_of}
use Rattle.replay.specs.Running.{device_named, call_with, line_for}
use Rattle.replay.specs.Whole.{lines_of, transcript_of, spaces_left, blot, blotted_from, blotted}

-- the mark and the version
abbrev opening : List ℕ
opening = 78 ∷ 75 ∷ 74 ∷ 1 ∷ 0 ∷ []

-- `end 0`
abbrev pub end_0 : List ℕ
end_0 = 101 ∷ 110 ∷ 100 ∷ 32 ∷ 48 ∷ 10 ∷ []

-- ---- the paper's example: 48 zero bytes, and a generator read of 4 bytes before seeding
pub paper_told : transcript_of (opening ++ replicate 48 0 ++ (5 ∷ 0 ∷ 0 ∷ 0 ∷ 0 ∷ 4 ∷ 0 ∷ []))
    -- `2 0 0 0 0 0 0`
    ≡ (50 ∷ 32 ∷ 48 ∷ 32 ∷ 48 ∷ 32 ∷ 48 ∷ 32 ∷ 48 ∷ 32 ∷ 48 ∷ 32 ∷ 48 ∷ 10 ∷ []) ++ end_0
unfolding transcript_of lines_of outcomes line_for call_with device_named devices_in device_bytes known carried_by walk_of behind walk walk_from header_of header_within refusal_within start_of read_at front opened carrying fields_in widths sum record_of carries line_of end_of word_of digits tail_of told in_range others_in_range ledger_in_range act read_call bytes_words le_number pick
paper_told = refl

-- ---- six records: each with its bytes, and with its line

-- the start bytes, 0 to 47
abbrev start : List ℕ
start = 0 ∷ 1 ∷ 2 ∷ 3 ∷ 4 ∷ 5 ∷ 6 ∷ 7 ∷ 8 ∷ 9 ∷ 10 ∷ 11 ∷ 12 ∷ 13 ∷ 14 ∷ 15 ∷ 16 ∷ 17 ∷ 18 ∷ 19 ∷ 20 ∷ 21 ∷ 22 ∷ 23 ∷ 24 ∷ 25 ∷ 26 ∷ 27 ∷
    28 ∷ 29 ∷ 30 ∷ 31 ∷ 32 ∷ 33 ∷ 34 ∷ 35 ∷ 36 ∷ 37 ∷ 38 ∷ 39 ∷ 40 ∷ 41 ∷ 42 ∷ 43 ∷ 44 ∷ 45 ∷ 46 ∷ 47 ∷ []

-- an event of device 1, which is new and earns nothing
abbrev event : List ℕ
event = 1 ∷ 220 ∷ 5 ∷ 0 ∷ 0 ∷ 1 ∷ 239 ∷ 205 ∷ 171 ∷ 137 ∷ 103 ∷ 69 ∷ 35 ∷ 1 ∷ 7 ∷ 0 ∷ 0 ∷ 0 ∷ []

-- `0 0 0 0 0 0 0`
abbrev pub event-line : List ℕ
event-line = 48 ∷ 32 ∷ 48 ∷ 32 ∷ 48 ∷ 32 ∷ 48 ∷ 32 ∷ 48 ∷ 32 ∷ 48 ∷ 32 ∷ 48 ∷ 10 ∷ []

-- an interrupt, late enough to spill
abbrev interrupt : List ℕ
interrupt = 2 ∷ 221 ∷ 5 ∷ 0 ∷ 0 ∷ 9 ∷ 0 ∷ 0 ∷ 0 ∷ 239 ∷ 205 ∷ 171 ∷ 137 ∷ 103 ∷ 69 ∷ 35 ∷ 1 ∷ 16 ∷ 50 ∷ 84 ∷ 118 ∷ 152 ∷ 186 ∷ 220 ∷ 254 ∷
    []

-- `0 0 6 0 0 0 6`
abbrev pub interrupt-line : List ℕ
interrupt-line = 48 ∷ 32 ∷ 48 ∷ 32 ∷ 54 ∷ 32 ∷ 48 ∷ 32 ∷ 48 ∷ 32 ∷ 48 ∷ 32 ∷ 54 ∷ 10 ∷ []

-- a seed of 22 bytes with 171 bits, which seeds the keeper
abbrev seeding : List ℕ
seeding = 4 ∷ 222 ∷ 5 ∷ 0 ∷ 0 ∷ 22 ∷ 0 ∷ 171 ∷ 0 ∷ 0 ∷ 0 ∷ 0 ∷ 1 ∷ 2 ∷ 3 ∷ 4 ∷ 5 ∷ 6 ∷ 7 ∷ 8 ∷ 9 ∷ 10 ∷ 11 ∷ 12 ∷ 13 ∷ 14 ∷ 15 ∷ 16 ∷ 17 ∷
    18 ∷ 19 ∷ 20 ∷ 21 ∷ []

-- `0 0 7 0 0 16 1025`
abbrev pub seeding_line : List ℕ
seeding_line = 48 ∷ 32 ∷ 48 ∷ 32 ∷ 55 ∷ 32 ∷ 48 ∷ 32 ∷ 48 ∷ 32 ∷ 49 ∷ 54 ∷ 32 ∷ 49 ∷ 48 ∷ 50 ∷ 53 ∷ 10 ∷ []

-- a generator read of 8 bytes
abbrev eight : List ℕ
eight = 5 ∷ 223 ∷ 5 ∷ 0 ∷ 0 ∷ 8 ∷ 0 ∷ []

-- `0 8 7 0 1 0 0 a9c7a150f8824f67`
abbrev pub eight_line : List ℕ
eight_line = 48 ∷ 32 ∷ 56 ∷ 32 ∷ 55 ∷ 32 ∷ 48 ∷ 32 ∷ 49 ∷ 32 ∷ 48 ∷ 32 ∷ 48 ∷ 32 ∷ 97 ∷ 57 ∷ 99 ∷ 55 ∷ 97 ∷ 49 ∷ 53 ∷ 48 ∷ 102 ∷ 56 ∷ 56 ∷ 50 ∷ 52 ∷ 102 ∷ 54 ∷ 55 ∷ 10 ∷ []

-- a seed of 16 bytes with 128 bits
abbrev credit : List ℕ
credit = 4 ∷ 224 ∷ 5 ∷ 0 ∷ 0 ∷ 16 ∷ 0 ∷ 128 ∷ 0 ∷ 0 ∷ 0 ∷ 97 ∷ 98 ∷ 99 ∷ 100 ∷ 101 ∷ 102 ∷ 103 ∷ 104 ∷ 105 ∷ 106 ∷ 107 ∷ 108 ∷ 109 ∷ 110 ∷
    111 ∷ 112 ∷ []

-- `0 0 774 0 0 0 767`
abbrev pub credit_line : List ℕ
credit_line = 48 ∷ 32 ∷ 48 ∷ 32 ∷ 55 ∷ 55 ∷ 52 ∷ 32 ∷ 48 ∷ 32 ∷ 48 ∷ 32 ∷ 48 ∷ 32 ∷ 55 ∷ 54 ∷ 55 ∷ 10 ∷ []

-- a blocking read of 3 bytes, which leaves 262 units in the one pool and 192 in the other
abbrev three : List ℕ
three = 6 ∷ 225 ∷ 5 ∷ 0 ∷ 0 ∷ 3 ∷ 0 ∷ []

-- `0 3 262 192 0 10 384 595a27`
abbrev pub three_line : List ℕ
three_line = 48 ∷ 32 ∷ 51 ∷ 32 ∷ 50 ∷ 54 ∷ 50 ∷ 32 ∷ 49 ∷ 57 ∷ 50 ∷ 32 ∷ 48 ∷ 32 ∷ 49 ∷ 48 ∷ 32 ∷ 51 ∷ 56 ∷ 52 ∷ 32 ∷ 53 ∷ 57 ∷ 53 ∷ 97 ∷ 50 ∷ 55 ∷ 10 ∷ []

abbrev pub six : List ℕ
six = opening ++ (start ++ (event ++ (interrupt ++ (seeding ++ (eight ++ (credit ++ three))))))

pub six_told : transcript_of six ≡ event-line ++ (interrupt-line ++ (seeding_line ++ (eight_line ++ (credit_line ++ (three_line ++ end_0)))))
unfolding transcript_of lines_of outcomes line_for call_with device_named devices_in device_bytes known carried_by walk_of behind walk walk_from header_of header_within refusal_within start_of read_at front opened carrying fields_in widths sum record_of carries line_of end_of word_of digits tail_of hex_of glyph_of told in_range others_in_range ledger_in_range act event_call interrupt_call seed_call read_call generate blocking_call deliver transfer credit_input reseed event_bits estimate log2 signed taken credited further stirred generated stream counted xor_at bytes_words le_number words_bytes le_bytes chacha_block rounds inner_block quarter_round line extract_blocks pool_hash hashed folded compressed initial_hash run step schedule next_word constant Sha1·mix ch parity maj swapped mix mixed_words tapped twisted rotl zip_with pick
six_told = refl

-- ---- devices by the version: an event of device d at clock 0 with value 1
abbrev old_event : ℕ → List ℕ
old_event d = 1 ∷ 0 ∷ 0 ∷ 0 ∷ 0 ∷ d ∷ 0 ∷ 0 ∷ 0 ∷ 0 ∷ 0 ∷ 0 ∷ 0 ∷ 0 ∷ 1 ∷ 0 ∷ 0 ∷ 0 ∷ []

-- in version 2 the device has two bytes, the lower first
abbrev new_event : ℕ → ℕ → List ℕ
new_event low high = 1 ∷ 0 ∷ 0 ∷ 0 ∷ 0 ∷ low ∷ high ∷ 0 ∷ 0 ∷ 0 ∷ 0 ∷ 0 ∷ 0 ∷ 0 ∷ 0 ∷ 1 ∷ 0 ∷ 0 ∷ 0 ∷ []

-- `4 0 0 0 0 0 0`
abbrev no_device_line : List ℕ
no_device_line = 52 ∷ 32 ∷ 48 ∷ 32 ∷ 48 ∷ 32 ∷ 48 ∷ 32 ∷ 48 ∷ 32 ∷ 48 ∷ 32 ∷ 48 ∷ 10 ∷ []

-- version 1: device 15 is done, 16 and 255 are answered 4
pub old_devices_told : transcript_of (opening ++ (replicate 48 0 ++ (old_event 15 ++ (old_event 16 ++ old_event 255)))) ≡ event-line ++ (no_device_line ++ (no_device_line ++ end_0))
unfolding transcript_of lines_of outcomes line_for call_with device_named devices_in device_bytes known carried_by walk_of behind walk walk_from header_of header_within refusal_within start_of read_at front opened carrying fields_in widths sum record_of carries line_of end_of word_of digits tail_of hex_of glyph_of told in_range others_in_range ledger_in_range act event_call interrupt_call seed_call read_call generate blocking_call deliver transfer credit_input reseed event_bits estimate log2 signed taken credited further stirred generated stream counted xor_at bytes_words le_number words_bytes le_bytes chacha_block rounds inner_block quarter_round line extract_blocks pool_hash hashed folded compressed initial_hash run step schedule next_word constant Sha1·mix ch parity maj swapped mix mixed_words tapped twisted rotl zip_with pick
old_devices_told = refl

-- version 2: 16 and 1,023 are done; 1,024 and 65,535 are answered 4
pub new_devices_told : transcript_of ((78 ∷ 75 ∷ 74 ∷ 2 ∷ 0 ∷ []) ++ (replicate 48 0 ++ (new_event 16 0 ++ (new_event 255 3 ++ (new_event 0 4 ++ new_event 255 255)))))
    ≡ event-line ++ (event-line ++ (no_device_line ++ (no_device_line ++ end_0)))
unfolding transcript_of lines_of outcomes line_for call_with device_named devices_in device_bytes known carried_by walk_of behind walk walk_from header_of header_within refusal_within start_of read_at front opened carrying fields_in widths sum record_of carries line_of end_of word_of digits tail_of hex_of glyph_of told in_range others_in_range ledger_in_range act event_call interrupt_call seed_call read_call generate blocking_call deliver transfer credit_input reseed event_bits estimate log2 signed taken credited further stirred generated stream counted xor_at bytes_words le_number words_bytes le_bytes chacha_block rounds inner_block quarter_round line extract_blocks pool_hash hashed folded compressed initial_hash run step schedule next_word constant Sha1·mix ch parity maj swapped mix mixed_words tapped twisted rotl zip_with pick
new_devices_told = refl

-- ---- the hex blotted out: `0 3 262 192 0 10 384*******`, and the last line as it is
pub three_blotted : blotted (three_line ++ end_0) ≡ (48 ∷ 32 ∷ 51 ∷ 32 ∷ 50 ∷ 54 ∷ 50 ∷ 32 ∷ 49 ∷ 57 ∷ 50 ∷ 32 ∷ 48 ∷ 32 ∷ 49 ∷ 48 ∷ 32 ∷ 51 ∷ 56 ∷ 52 ∷ 42 ∷ 42 ∷ 42 ∷ 42 ∷ 42 ∷ 42 ∷ 42 ∷ 10 ∷ []) ++ end_0
unfolding blotted_from blot spaces_left pick
three_blotted = refl
