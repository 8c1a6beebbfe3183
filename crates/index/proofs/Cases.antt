-- Indexes of whole journals, computed by the checker.
use mathlib.Core.Path.{◌≡◌, refl}
use mathlib.Core.List.{List, [], ◌∷◌, ◌++◌}
use Prim.Native.Nat.{ℕ, zero, suc}
use lib.ListN.{take, replicate}
use Rattle.words.specs.Bytes.{le_bytes, le_number, words_bytes}
use Rattle.ledger.specs.Choice.{pick}
use Rattle.journal.specs.Layout as layout
use Rattle.journal.specs.Reading as reading
use Rattle.journal.specs.Header as header
use Rattle.journal.specs.Walking as walking
use Rattle.journal.specs.declared.records.Record.TheVariants.{Read}
use Rattle.journal.specs.Found.{One}
use Rattle.index.specs.Summary as summary
use Rattle.index.specs.Filing as filing
use Rattle.index.specs.Looking as looking

-- a header of a version, and records one after another
abbrev headed : ℕ → List ℕ → List ℕ
headed v records = 78 ∷ 75 ∷ 74 ∷ v ∷ 0 ∷ (replicate 48 0 ++ records)

-- a read of 5,000 bytes, which is refused and counts all the same; a seed of two bytes; a blocking read of 8
abbrev three : List ℕ
three = headed 1 (5 ∷ 1 ∷ 0 ∷ 0 ∷ 0 ∷ 136 ∷ 19 ∷ 4 ∷ 2 ∷ 0 ∷ 0 ∷ 0 ∷ 2 ∷ 0 ∷ 7 ∷ 0 ∷ 0 ∷ 0 ∷ 170 ∷ 187 ∷ 6 ∷ 3 ∷ 0 ∷ 0 ∷ 0 ∷ 8 ∷ 0 ∷ [])

pub three_index : filing.file_of (summary.index_of three)
    ≡ 78 ∷ 75 ∷ 73 ∷ 1 ∷ 0 ∷ 0 ∷ 0 ∷ 0 ∷ 0 ∷ 0 ∷ 0 ∷ 0 ∷ 0 ∷ 0 ∷ 0 ∷ 0 ∷ 0 ∷ 1 ∷ 0 ∷ 0 ∷ 0 ∷ 1 ∷ 0 ∷ 0 ∷ 0 ∷ 1 ∷ 0 ∷ 0 ∷ 0 ∷ 144 ∷ 19 ∷ 0 ∷ 0 ∷ 53 ∷ 0 ∷ 0 ∷ 0 ∷ []
unfolding summary.index_of summary.summary_of summary.places_of summary.table summary.kinds_of summary.of_kind summary.reads_of summary.asks filing.file_of filing.used layout.sum layout.kind_of layout.widths layout.record_of layout.carries reading.fields_in reading.carrying reading.opened reading.front reading.read_at header.known header.refusal_within header.header_within header.header_of walking.walk_from walking.walk walking.behind walking.walk_of le_bytes le_number words_bytes pick
three_index = refl

-- 65 reads of one byte: record 64 has the second place, and no other before it
unfoldable pub times : ℕ → List ℕ → List ℕ
times zero l = []
times (suc n) l = l ++ times n l

abbrev sixty_five : List ℕ
sixty_five = headed 1 (times 65 (5 ∷ 0 ∷ 0 ∷ 0 ∷ 0 ∷ 1 ∷ 0 ∷ []))

pub second_place : take 3 (summary.index_of sixty_five).places ≡ 53 ∷ 501 ∷ 0 ∷ []
unfolding times summary.index_of summary.summary_of summary.places_of summary.table layout.sum layout.widths layout.record_of layout.carries reading.fields_in reading.carrying reading.opened reading.front reading.read_at header.known header.refusal_within header.header_within header.header_of walking.walk_from walking.walk walking.behind walking.walk_of le_number pick
second_place = refl

-- version 2: an event of device 513, which has a byte more, and the paper's read behind it
abbrev second : List ℕ
second = headed 2 (1 ∷ 3 ∷ 4 ∷ 5 ∷ 6 ∷ 1 ∷ 2 ∷ 7 ∷ 8 ∷ 9 ∷ 10 ∷ 11 ∷ 12 ∷ 13 ∷ 14 ∷ 15 ∷ 16 ∷ 17 ∷ 18 ∷ 5 ∷ 0 ∷ 0 ∷ 0 ∷ 0 ∷ 4 ∷ 0 ∷ [])

pub second_looked_up : looking.look_up (summary.index_of second) second 1 ≡ looking.there 72 (One (Read 0 4) 79)
unfolding looking.look_up looking.sought looking.passed summary.records_in summary.index_of summary.summary_of summary.places_of summary.table summary.kinds_of summary.of_kind layout.sum layout.kind_of layout.device_bytes layout.widths layout.record_of layout.carries reading.fields_in reading.carrying reading.opened reading.front reading.read_at header.known header.refusal_within header.header_within header.header_of walking.walk_from walking.walk walking.behind walking.walk_of le_number pick
second_looked_up = refl
