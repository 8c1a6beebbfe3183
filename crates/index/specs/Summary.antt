-- The index of a journal: the byte places of records 0, 64, 128 and so on, how many records there are of each kind, and the sum of the lengths
-- that reads ask for. It is a function of the journal's records, and they are read off the one walk.
use Rattle.std.specs.Prelude.{ℕ, zero, suc, ◌+◌, ◌-◌, ◌*◌, ◌/◌, ◌%◌, List, [], ◌∷◌, map, get_or, set, eqb}
use Rattle.ledger.specs.Choice.{pick}
use Rattle.journal.specs.Layout.{sum, kind_of}
use Rattle.journal.specs.Walking.{Entry, walk_of}
use Rattle.journal.specs.declared.records.Record.{Record}
use Rattle.journal.specs.declared.records.Record.TheVariants.{Event, Interrupt, Write, Seed, Read, BlockingRead}
use Rattle.index.specs.declared.summary.Index.{Index}

-- every so many records one has its place in the index; there are at most so many such places, and six kinds
abbrev pub every : ℕ
every = 64

abbrev pub most_places : ℕ
most_places = 138

abbrev pub kinds_there_are : ℕ
kinds_there_are = 6

-- f 0, f 1 and so on, n of them
unfoldable pub table : ℕ → (ℕ → ℕ) → List ℕ
table zero f = []
table (suc n) f = f 0 ∷ table n (λ i. f (suc i))

-- the places of records 0, 64, 128 and so on; one for which there is no record is 0
unfoldable pub places_of : List Entry → List ℕ
places_of es = table most_places (λ i. get_or (map (λ (e : Entry). e.place) es) (every * i) 0)

-- how many records are of a kind, and of each kind
unfoldable pub of_kind : ℕ → List Entry → ℕ
of_kind k [] = 0
of_kind k (e ∷ es) = pick (eqb (kind_of e.what) k) 1 0 + of_kind k es

unfoldable pub kinds_of : List Entry → List ℕ
kinds_of es = table kinds_there_are (λ i. of_kind (suc i) es)

-- the length that a read asks for, whatever it will be answered; and their sum
unfoldable pub asks : Record → ℕ
asks (Event now device stamp value) = 0
asks (Interrupt now number stamp address) = 0
asks (Write now len) = 0
asks (Seed now len credit) = 0
asks (Read now len) = len
asks (BlockingRead now len) = len

unfoldable pub reads_of : List Entry → ℕ
reads_of [] = 0
reads_of (e ∷ es) = asks e.what + reads_of es

-- THE INDEX of records, and of a journal: worked out afresh
abbrev pub index : List ℕ → List ℕ → ℕ → Index
index places kinds reads = record { places = places; kinds = kinds; reads = reads }

unfoldable pub summary_of : List Entry → Index
summary_of es = index (places_of es) (kinds_of es) (reads_of es)

unfoldable pub index_of : List ℕ → Index
index_of j = summary_of (walk_of j).entries

-- how many records an index tells of: those of all kinds
unfoldable pub records_in : Index → ℕ
records_in ix = sum ix.kinds

-- ---- the update: an index of n records and one record more, and any number more
unfoldable pub added : ℕ → Index → Entry → Index
added n ix e =
    let k = kind_of e.what - 1 in
    index (pick (eqb (n % every) 0) (set ix.places (n / every) e.place) ix.places) (set ix.kinds k (get_or ix.kinds k 0 + 1)) (ix.reads + asks e.what)

unfoldable pub updated : ℕ → Index → List Entry → Index
updated n ix [] = ix
updated n ix (e ∷ es) = updated (suc n) (added n ix e) es
