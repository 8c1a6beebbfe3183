-- A journal of version 1 written as version 2: what comes out, what is refused, in the order of the wish, and what the room then holds.
use Rattle.std.specs.Prelude.{ℕ, Bool, false, ◌||◌, List, [], ◌∷◌, length, leb, ltb, eqb}
use Rattle.std.proofs.lemmas.List.Edits.{sets}
use Rattle.ledger.specs.Choice.{pick, first}
use Rattle.ledger.specs.Numbers.{no_such_device, version_wrong, journal_too_large, room_too_short}
use Rattle.journal.specs.Layout.{devices_in}
use Rattle.journal.specs.Header.{largest, version_of, start_of}
use Rattle.journal.specs.Walking.{Entry, walk_of, ending_of}
use Rattle.journal.specs.Writing.{said_in, journal_of}
use Rattle.journal.specs.declared.records.Record.{Record}
use Rattle.journal.specs.declared.records.Record.TheVariants.{Event, Interrupt, Write, Seed, Read, BlockingRead}
use Rattle.convert.specs.declared.converting.Converted.{Converted}

-- THE OUTCOME: a journal of version 2, with the same start bytes and the same records, each with the bytes that it carries
unfoldable pub outcome_of : List ℕ → List ℕ
outcome_of j = journal_of 2 (start_of j) (said_in j (walk_of j).entries)

-- whether a record is an event of a device that version 1 has not: its replay answers 4, and that of version 2 may not
unfoldable pub strange : Record → Bool
strange (Event now device stamp value) = leb (devices_in 1) device
strange (Interrupt now number stamp address) = false
strange (Write now len) = false
strange (Seed now len credit) = false
strange (Read now len) = false
strange (BlockingRead now len) = false

-- whether one of the records is
unfoldable pub beyond : List Entry → Bool
beyond [] = false
beyond (e ∷ es) = strange e.what || beyond es

-- WHAT IS REFUSED, in this order, where the room has n bytes: a journal that does not end with 0, with its number; one that is not of version 1;
-- an event of a device that version 1 has not; an outcome that is too large for a journal; one that is too long for the room
unfoldable pub refusal_of : List ℕ → ℕ → ℕ
refusal_of j n =
    first
    (ending_of j
    ∷ pick (eqb (version_of j) 1) 0 version_wrong
    ∷ pick (beyond (walk_of j).entries) no_such_device 0
    ∷ pick (ltb largest (length (outcome_of j))) journal_too_large 0
    ∷ pick (ltb n (length (outcome_of j))) room_too_short 0
    ∷ [])

-- THE ANSWER: 0 and how many bytes were written; or the number that refused it, and none
unfoldable pub converted_of : List ℕ → ℕ → Converted
converted_of j n = let m = refusal_of j n in record { number = m; len = pick (eqb m 0) (length (outcome_of j)) 0 }

-- THE ROOM then: the outcome laid at its start, all other bytes as they were; or all as they were
unfoldable pub room_after : List ℕ → List ℕ → List ℕ
room_after j room = pick (eqb (refusal_of j (length room)) 0) (sets room 0 (outcome_of j)) room
