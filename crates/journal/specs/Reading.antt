-- What stands at a position of a journal. The tests come in this order: the kind, whether the fields are whole, the length, whether the
-- bytes are whole. Nothing is read of a record of which a byte is missing.
use Rattle.std.specs.Prelude.{ℕ, ◌+◌, ◌-◌, List, [], ◌∷◌, length, take, drop, ltb, eqb}
use Rattle.ledger.specs.Choice.{pick}
use Rattle.ledger.specs.Sizes.{longest}
use Rattle.ledger.specs.Numbers.{too_long, cut_short, unknown_kind}
use Rattle.words.specs.Bytes.{le_number}
use Rattle.journal.specs.Layout.{widths, sum, record_of, carries}
use Rattle.journal.specs.declared.records.Record.{Record}
use Rattle.journal.specs.Found.{Found, One, Stop, End}

-- the number that the n bytes at a position make, the lowest first
abbrev pub num : ℕ → List ℕ → ℕ → ℕ
num n j at = le_number (take n (drop at j))

-- fields of these widths, one after another from the front
unfoldable pub fields_in : List ℕ → List ℕ → List ℕ
fields_in [] bs = []
fields_in (w ∷ ws) bs = le_number (take w bs) ∷ fields_in ws (drop w bs)

-- a record whose fields end at a position, with so many bytes left: the length is judged before the bytes are
unfoldable pub carrying : Record → ℕ → ℕ → Found
carrying r at left = pick (ltb longest (carries r)) (Stop too_long) (pick (ltb left (carries r)) (Stop cut_short) (One r (at + carries r)))

-- a record of a kind whose fields begin at a position, with these bytes from there on
unfoldable pub opened : ℕ → ℕ → ℕ → List ℕ → Found
opened v kind start bs =
    let ws = widths v kind in
    pick (eqb (length ws) 0) (Stop unknown_kind)
    (pick (ltb (length bs) (sum ws)) (Stop cut_short)
    (carrying (record_of kind (fields_in ws bs)) (start + sum ws) (length bs - sum ws)))

-- what stands at a position, with these bytes from there on
unfoldable pub front : ℕ → ℕ → List ℕ → Found
front v at [] = End
front v at (kind ∷ bs) = opened v kind (at + 1) bs

-- a record of a version and the position after it, a number that ends the journal, or the end of its bytes
unfoldable pub read_at : ℕ → List ℕ → ℕ → Found
read_at v j at = front v at (drop at j)
