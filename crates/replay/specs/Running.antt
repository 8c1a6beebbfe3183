-- A record run on a keeper: the call that it stands for, and the line that the transcript has for it.
use Rattle.std.specs.Prelude.{List, ℕ, ltb}
use Rattle.ledger.specs.Choice.{pick}
use Rattle.ledger.specs.Sizes.{devices}
use Rattle.journal.specs.Layout.{devices_in}
use Rattle.journal.specs.Writing.{carried_by}
use Rattle.journal.specs.Walking.{Entry}
use Rattle.journal.specs.declared.records.Record.{Record}
use Rattle.journal.specs.declared.records.Record.TheVariants.{Event, Interrupt, Write, Seed, Read, BlockingRead}
use Rattle.transcript.specs.Lines.{line_of}
use Rattle.keeper.specs.Record.{Outcome}
use Rattle.keeper.specs.Calls.{Call, device_event, interrupted, written, seeded_with, generator_read, blocking_read_of}

-- the device that an event of a version names: one that there was not when such journals were written is none of the keeper's either, and the
-- keeper answers 4
unfoldable pub device_named : ℕ → ℕ → ℕ
device_named v device = pick (ltb device (devices_in v)) device devices

-- a record of a version with the bytes that it carries; the clocks of kinds 3 and 6 are used by no rule
unfoldable pub call_with : ℕ → List ℕ → Record → Call
call_with v bs (Event now device stamp value) = device_event (device_named v device) now stamp value
call_with v bs (Interrupt now number stamp address) = interrupted now number stamp address
call_with v bs (Write now len) = written bs
call_with v bs (Seed now len credit) = seeded_with now bs credit
call_with v bs (Read now len) = generator_read now len
call_with v bs (BlockingRead now len) = blocking_read_of len

-- the call of an entry of a journal of a version: the bytes of a write or a seed are a part of the journal
abbrev pub call_of : ℕ → List ℕ → Entry → Call
call_of v j e = call_with v (carried_by j e.what e.next) e.what

-- one line a record: the answer, then the counts as they are after it, then the bytes
unfoldable pub line_for : Outcome → List ℕ
line_for o = line_of o.answer o.keeper.ledger.input.count o.keeper.ledger.blocking.count o.bytes
