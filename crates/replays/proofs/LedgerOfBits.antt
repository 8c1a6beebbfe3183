-- The ledger of bits of a journal with a record of each kind but a write, worked out by the checker: what each record awards, by the calls alone; and the
-- sums over the lines of its transcript, which `six-told` has. Of 300 bits awarded 1,798 units came into the input pool, where 262 are left; 16 bytes went
-- onto the key and 8 into the blocking pool, 24 times 64. Those 8 brought 384 units, of which 192 are left, and 3 bytes were delivered.
use mathlib.Core.Path.{◌≡◌, refl, ap}
use mathlib.Core.List.{List, [], ◌∷◌, ◌++◌, map, sum}
use Prim.Native.Nat.{ℕ, ◌+◌}
use Rattle.words.specs.Bytes.{le_number}
use Rattle.ledger.specs.Choice.{pick}
use Rattle.ledger.specs.Clocks.{signed, log2, estimate}
use Rattle.ledger.specs.Earned.{last_value, kept_clocks, earned}
use Rattle.ledger.specs.Awards.{interrupt_clocks, spill_by, award, awards_from, awarded}
use Rattle.ledger.specs.LedgerOfBits.{summed, delivered, added_to_input, added_to_blocking}
use Rattle.ledger.specs.PublicCalls.{PublicCall}
use Rattle.ledger.specs.declared.Answer.{Answer}
use Rattle.journal.specs.Layout.{device_bytes, devices_in, widths, record_of, carries}
use Rattle.journal.specs.Layout.{sum as total}
use Rattle.journal.specs.Reading.{fields_in, carrying, opened, front, read_at}
use Rattle.journal.specs.Writing.{carried_by}
use Rattle.journal.specs.Header.{known, refusal_within, header_within, header_of, start_of}
use Rattle.journal.specs.Walking.{walk_from, walk, behind, walk_of}
use Rattle.keeper.specs.Calls.{public}
use Rattle.transcript.specs.Columns.{in_front, parts, number_in, row_in, lines_in, rows_in}
use Rattle.replay.specs.Running.{device_named, call_with}
use Rattle.replay.specs.Whole.{calls_of}
use Rattle.replay.specs.LedgerOfBits.{answer_in, last_at, input_in, blocking_in}
use Rattle.replays.proofs.Transcripts.{six, event-line, interrupt-line, seeding_line, eight_line, credit_line, three_line, end_0}

abbrev calls : List PublicCall
calls = map public (calls_of six)

abbrev rows : List (List ℕ)
rows = rows_in (event-line ++ (interrupt-line ++ (seeding_line ++ (eight_line ++ (credit_line ++ (three_line ++ end_0))))))

abbrev answers : List Answer
answers = map answer_in rows

pub six_awards : awards_from [] calls ≡ 0 ∷ 1 ∷ 171 ∷ 0 ∷ 128 ∷ 0 ∷ []
unfolding awards_from award earned kept_clocks last_value interrupt_clocks spill_by signed log2 estimate call_with device_named devices_in device_bytes known carried_by walk_of behind walk walk_from header_of header_within refusal_within start_of read_at front opened carrying fields_in widths total record_of carries le_number pick
six_awards = refl

pub six_awarded : awarded calls ≡ 300
unfolding sum
six_awarded = ap (sum ◌+◌ 0) six_awards

pub six_sums : (delivered calls answers ∷ added_to_input calls answers ∷ added_to_blocking calls answers ∷ input_in rows ∷ blocking_in rows ∷ []) ≡ 3 ∷ 1798 ∷ 384 ∷ 262 ∷ 192 ∷ []
unfolding summed last_at rows_in lines_in row_in number_in parts in_front call_with device_named devices_in device_bytes known carried_by walk_of behind walk walk_from header_of header_within refusal_within start_of read_at front opened carrying fields_in widths total record_of carries le_number pick
six_sums = refl
