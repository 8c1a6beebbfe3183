-- A record as bytes, and records one after another.
use Rattle.std.specs.Prelude.{ℕ, ◌+◌, ◌-◌, ◌*◌, ◌^◌, ◌≤◌, ◌<◌, ◌≡◌, List, [], ◌∷◌, ◌++◌, map, length, take, drop}
use Rattle.ledger.specs.Sizes.{longest}
use Rattle.words.specs.Bytes.{le_bytes}
use Rattle.journal.specs.Layout.{widths, kind_of, fields_of, carries}
use Rattle.journal.specs.Walking.{Entry, Walk}
use Rattle.journal.specs.declared.records.Record.{Record}

-- fields laid out in these widths, one after another
unfoldable pub laid : List ℕ → List ℕ → List ℕ
laid [] fs = []
laid (w ∷ ws) [] = []
laid (w ∷ ws) (f ∷ fs) = le_bytes w f ++ laid ws fs

-- a record's kind and its fields; and the whole record, with the bytes that it carries
unfoldable pub head_of : ℕ → Record → List ℕ
head_of v r = kind_of r ∷ laid (widths v (kind_of r)) (fields_of r)

unfoldable pub bytes_of : ℕ → Record → List ℕ → List ℕ
bytes_of v r carried = head_of v r ++ carried

-- a journal's header: the letters N, K, J, the version in two bytes, and the start bytes
unfoldable pub header_for : ℕ → List ℕ → List ℕ
header_for v start = 78 ∷ 75 ∷ 74 ∷ (le_bytes 2 v ++ start)

-- the bytes that a record of a journal carries: the last before the position after it
unfoldable pub carried_by : List ℕ → Record → ℕ → List ℕ
carried_by j r next = take (carries r) (drop (next - carries r) j)

-- each field is below what its bytes hold, and there are as many widths as fields
unfoldable pub Fit : List ℕ → List ℕ → Type 0
Fit [] [] = Unit
Fit [] (f ∷ fs) = ⊥
Fit (w ∷ ws) [] = ⊥
Fit (w ∷ ws) (f ∷ fs) = (f < 2 ^ (8 * w)) × Fit ws fs

-- a record that a version can hold, with the bytes that it carries
pub record Writable (v : ℕ) (r : Record) (carried : List ℕ) : Type 0 where
  pub fields : Fit (widths v (kind_of r)) (fields_of r)
  pub bytes : length carried ≡ carries r
  pub few : carries r ≤ longest

-- ---- a record with the bytes that it carries, wherever it stands: what is written, and what a walk read
pub record Said : Type 0 where
  pub what : Record
  pub carried : List ℕ

unfoldable pub said_at : List ℕ → Entry → Said
said_at j e = record { what = e.what; carried = carried_by j e.what e.next }

abbrev pub said_in : List ℕ → List Entry → List Said
said_in j es = map (said_at j) es

unfoldable pub written : ℕ → List Said → List ℕ
written v [] = []
written v (s ∷ ss) = bytes_of v s.what s.carried ++ written v ss

-- a journal of a version, with these start bytes and these records
unfoldable pub journal_of : ℕ → List ℕ → List Said → List ℕ
journal_of v start ss = header_for v start ++ written v ss

unfoldable pub AllWritable : ℕ → List Said → Type 0
AllWritable v [] = Unit
AllWritable v (s ∷ ss) = Writable v s.what s.carried × AllWritable v ss

-- ---- one walk, and another that begins where it stops: what a journal has that is written on
abbrev pub joined : Walk → Walk → Walk
joined a b = record { entries = a.entries ++ b.entries; stop = b.stop; number = b.number }

-- ---- the same records so many bytes further on: what bytes have that stand behind others
unfoldable pub further : ℕ → Entry → Entry
further k e = record { place = k + e.place; what = e.what; next = k + e.next }

abbrev pub further_on : ℕ → Walk → Walk
further_on k w = record { entries = map (further k) w.entries; stop = k + w.stop; number = w.number }
