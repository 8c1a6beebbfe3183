-- The layout of a record: a kind, one byte; its fields, each a little-endian number of so many bytes; then the bytes that it carries.
use Rattle.std.specs.Prelude.{ℕ, ◌+◌, List, [], ◌∷◌, get_or, eqb}
use Rattle.ledger.specs.Choice.{pick}
use Rattle.ledger.specs.Sizes.{devices}
use Rattle.journal.specs.declared.records.Record.{Record}
use Rattle.journal.specs.declared.records.Record.TheVariants.{Event, Interrupt, Write, Seed, Read, BlockingRead}

-- the bytes of an event's device: one in version 1, two from version 2 on
unfoldable pub device_bytes : ℕ → ℕ
device_bytes v = pick (eqb v 1) 1 2

-- the devices that there were when journals of a version were written: 16 in version 1, all that a keeper has from version 2 on
unfoldable pub devices_in : ℕ → ℕ
devices_in v = pick (eqb v 1) 16 devices

-- how many bytes each field of a kind has, in a version; a kind that has no fields is unknown
unfoldable pub widths : ℕ → ℕ → List ℕ
widths v kind =
    get_or ([] ∷ (4 ∷ device_bytes v ∷ 8 ∷ 4 ∷ []) ∷ (4 ∷ 4 ∷ 8 ∷ 8 ∷ []) ∷ (4 ∷ 2 ∷ []) ∷ (4 ∷ 2 ∷ 4 ∷ []) ∷ (4 ∷ 2 ∷ []) ∷ (4 ∷ 2 ∷ []) ∷ []) kind []

unfoldable pub sum : List ℕ → ℕ
sum [] = 0
sum (w ∷ ws) = w + sum ws

-- the kind and the fields of a record, in the journal's order
unfoldable pub kind_of : Record → ℕ
kind_of (Event now device stamp value) = 1
kind_of (Interrupt now number stamp address) = 2
kind_of (Write now len) = 3
kind_of (Seed now len credit) = 4
kind_of (Read now len) = 5
kind_of (BlockingRead now len) = 6

unfoldable pub fields_of : Record → List ℕ
fields_of (Event now device stamp value) = now ∷ device ∷ stamp ∷ value ∷ []
fields_of (Interrupt now number stamp address) = now ∷ number ∷ stamp ∷ address ∷ []
fields_of (Write now len) = now ∷ len ∷ []
fields_of (Seed now len credit) = now ∷ len ∷ credit ∷ []
fields_of (Read now len) = now ∷ len ∷ []
fields_of (BlockingRead now len) = now ∷ len ∷ []

-- the record of a kind that has these fields
unfoldable pub record_of : ℕ → List ℕ → Record
record_of kind fs =
    let f : ℕ → ℕ = λ i. get_or fs i 0 in
    get_or (Read 0 0 ∷ Event (f 0) (f 1) (f 2) (f 3) ∷ Interrupt (f 0) (f 1) (f 2) (f 3) ∷ Write (f 0) (f 1) ∷ Seed (f 0) (f 1) (f 2) ∷ Read (f 0) (f 1) ∷ BlockingRead (f 0) (f 1) ∷ []) kind (Read 0 0)

-- how many bytes a record carries behind its fields
unfoldable pub carries : Record → ℕ
carries (Event now device stamp value) = 0
carries (Interrupt now number stamp address) = 0
carries (Write now len) = len
carries (Seed now len credit) = len
carries (Read now len) = 0
carries (BlockingRead now len) = 0
