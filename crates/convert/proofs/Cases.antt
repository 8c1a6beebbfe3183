-- Journals converted by the checker: bytes, numbers, and which number comes first.
use mathlib.Core.Path.{◌≡◌, refl}
use mathlib.Core.List.{List, [], ◌∷◌, ◌++◌}
use Prim.Native.Nat.{ℕ}
use lib.ListN.{take, replicate}
use Rattle.words.specs.Bytes.{le_bytes, le_number}
use Rattle.ledger.specs.Choice.{pick, first}
use Rattle.journal.specs.Layout as layout
use Rattle.journal.specs.Reading as reading
use Rattle.journal.specs.Header as header
use Rattle.journal.specs.Walking as walking
use Rattle.journal.specs.Writing as writing
use Rattle.convert.specs.Converting as converting

-- a header of a version, and records one after another
abbrev headed : ℕ → List ℕ → List ℕ
headed v records = 78 ∷ 75 ∷ 74 ∷ v ∷ 0 ∷ (replicate 48 0 ++ records)

-- an event of a device, as version 1 has it
abbrev event : ℕ → List ℕ
event device = 1 ∷ 1 ∷ 2 ∷ 3 ∷ 4 ∷ device ∷ 5 ∷ 6 ∷ 7 ∷ 8 ∷ 9 ∷ 10 ∷ 11 ∷ 12 ∷ 13 ∷ 14 ∷ 15 ∷ 16 ∷ []

-- a write of two bytes
abbrev two : List ℕ
two = 3 ∷ 1 ∷ 0 ∷ 0 ∷ 0 ∷ 2 ∷ 0 ∷ 170 ∷ 187 ∷ []

-- THE BYTES: an event of device 15, and a write behind it
pub event_converted : converting.outcome_of (headed 1 (event 15 ++ two)) ≡ headed 2 ((1 ∷ 1 ∷ 2 ∷ 3 ∷ 4 ∷ 15 ∷ 0 ∷ 5 ∷ 6 ∷ 7 ∷ 8 ∷ 9 ∷ 10 ∷ 11 ∷ 12 ∷ 13 ∷ 14 ∷ 15 ∷ 16 ∷ []) ++ two)
unfolding converting.outcome_of layout.device_bytes layout.sum layout.kind_of layout.fields_of layout.widths layout.record_of layout.carries reading.fields_in reading.carrying reading.opened reading.front reading.read_at header.known header.refusal_within header.header_within header.header_of header.start_of walking.walk_from walking.walk walking.behind walking.walk_of writing.laid writing.head_of writing.bytes_of writing.header_for writing.carried_by writing.said_at writing.written writing.journal_of le_bytes le_number pick
event_converted = refl

-- NO RECORDS
pub none_converted : converting.outcome_of (headed 1 []) ≡ headed 2 []
unfolding converting.outcome_of layout.device_bytes layout.sum layout.kind_of layout.fields_of layout.widths layout.record_of layout.carries reading.fields_in reading.carrying reading.opened reading.front reading.read_at header.known header.refusal_within header.header_within header.header_of header.start_of walking.walk_from walking.walk walking.behind walking.walk_of writing.laid writing.head_of writing.bytes_of writing.header_for writing.carried_by writing.said_at writing.written writing.journal_of le_bytes le_number pick
none_converted = refl

-- THE ROOM: as long as the outcome, and one byte shorter. The outcome of an event has 72 bytes, one more than the journal
pub room_72 : converting.converted_of (headed 1 (event 15)) 72 ≡ record { number = 0; len = 72 }
unfolding converting.outcome_of converting.strange converting.beyond converting.refusal_of layout.devices_in layout.device_bytes layout.sum layout.kind_of layout.fields_of layout.widths layout.record_of layout.carries reading.fields_in reading.carrying reading.opened reading.front reading.read_at header.known header.refusal_within header.header_within header.header_of header.start_of walking.walk_from walking.walk walking.behind walking.walk_of writing.laid writing.head_of writing.bytes_of writing.header_for writing.carried_by writing.said_at writing.written writing.journal_of le_bytes le_number pick first converting.converted_of
room_72 = refl

pub room_71 : converting.converted_of (headed 1 (event 15)) 71 ≡ record { number = 19; len = 0 }
unfolding converting.outcome_of converting.strange converting.beyond converting.refusal_of layout.devices_in layout.device_bytes layout.sum layout.kind_of layout.fields_of layout.widths layout.record_of layout.carries reading.fields_in reading.carrying reading.opened reading.front reading.read_at header.known header.refusal_within header.header_within header.header_of header.start_of walking.walk_from walking.walk walking.behind walking.walk_of writing.laid writing.head_of writing.bytes_of writing.header_for writing.carried_by writing.said_at writing.written writing.journal_of le_bytes le_number pick first converting.converted_of
room_71 = refl

-- THE ORDER, with a room of 0 bytes throughout: 4 comes before 19, 9 before 4, and 10 before 4 and 9
pub device_16 : converting.refusal_of (headed 1 (event 16)) 0 ≡ 4
unfolding converting.outcome_of converting.strange converting.beyond converting.refusal_of layout.devices_in layout.device_bytes layout.sum layout.kind_of layout.fields_of layout.widths layout.record_of layout.carries reading.fields_in reading.carrying reading.opened reading.front reading.read_at header.known header.refusal_within header.header_within header.header_of header.start_of walking.walk_from walking.walk walking.behind walking.walk_of writing.laid writing.head_of writing.bytes_of writing.header_for writing.carried_by writing.said_at writing.written writing.journal_of le_bytes le_number pick first
device_16 = refl

pub version_2 : converting.refusal_of (headed 2 ((1 ∷ 1 ∷ 2 ∷ 3 ∷ 4 ∷ 16 ∷ 0 ∷ 5 ∷ 6 ∷ 7 ∷ 8 ∷ 9 ∷ 10 ∷ 11 ∷ 12 ∷ 13 ∷ 14 ∷ 15 ∷ 16 ∷ []))) 0 ≡ 9
unfolding converting.outcome_of converting.strange converting.beyond converting.refusal_of layout.devices_in layout.device_bytes layout.sum layout.kind_of layout.fields_of layout.widths layout.record_of layout.carries reading.fields_in reading.carrying reading.opened reading.front reading.read_at header.known header.refusal_within header.header_within header.header_of header.start_of walking.walk_from walking.walk walking.behind walking.walk_of writing.laid writing.head_of writing.bytes_of writing.header_for writing.carried_by writing.said_at writing.written writing.journal_of le_bytes le_number pick first
version_2 = refl

pub cut : converting.refusal_of (headed 1 (event 16 ++ take 17 (event 15))) 0 ≡ 10
unfolding converting.outcome_of converting.strange converting.beyond converting.refusal_of layout.devices_in layout.device_bytes layout.sum layout.kind_of layout.fields_of layout.widths layout.record_of layout.carries reading.fields_in reading.carrying reading.opened reading.front reading.read_at header.known header.refusal_within header.header_within header.header_of header.start_of walking.walk_from walking.walk walking.behind walking.walk_of writing.laid writing.head_of writing.bytes_of writing.header_for writing.carried_by writing.said_at writing.written writing.journal_of le_bytes le_number pick first
cut = refl

pub version_2_cut : converting.refusal_of (headed 2 (take 17 (event 15))) 0 ≡ 10
unfolding converting.outcome_of converting.strange converting.beyond converting.refusal_of layout.devices_in layout.device_bytes layout.sum layout.kind_of layout.fields_of layout.widths layout.record_of layout.carries reading.fields_in reading.carrying reading.opened reading.front reading.read_at header.known header.refusal_within header.header_within header.header_of header.start_of walking.walk_from walking.walk walking.behind walking.walk_of writing.laid writing.head_of writing.bytes_of writing.header_for writing.carried_by writing.said_at writing.written writing.journal_of le_bytes le_number pick first
version_2_cut = refl

-- THE BYTES PAST THE OUTCOME stay; and where it is refused, all do
pub past_the_outcome : converting.room_after (headed 1 []) (replicate 55 7) ≡ headed 2 (7 ∷ 7 ∷ [])
unfolding converting.outcome_of converting.strange converting.beyond converting.refusal_of layout.devices_in layout.device_bytes layout.sum layout.kind_of layout.fields_of layout.widths layout.record_of layout.carries reading.fields_in reading.carrying reading.opened reading.front reading.read_at header.known header.refusal_within header.header_within header.header_of header.start_of walking.walk_from walking.walk walking.behind walking.walk_of writing.laid writing.head_of writing.bytes_of writing.header_for writing.carried_by writing.said_at writing.written writing.journal_of le_bytes le_number pick first converting.room_after
past_the_outcome = refl

pub refused-room : converting.room_after (headed 2 []) (7 ∷ 7 ∷ []) ≡ 7 ∷ 7 ∷ []
unfolding converting.outcome_of converting.strange converting.beyond converting.refusal_of layout.devices_in layout.device_bytes layout.sum layout.kind_of layout.fields_of layout.widths layout.record_of layout.carries reading.fields_in reading.carrying reading.opened reading.front reading.read_at header.known header.refusal_within header.header_within header.header_of header.start_of walking.walk_from walking.walk walking.behind walking.walk_of writing.laid writing.head_of writing.bytes_of writing.header_for writing.carried_by writing.said_at writing.written writing.journal_of le_bytes le_number pick first converting.room_after
refused-room = refl
