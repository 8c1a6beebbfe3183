-- The walk: record by record from a position on, up to the first where no record stands. What a journal has and how it ends is read off it.
use Rattle.std.specs.Prelude.{ℕ, zero, suc, List, [], ◌∷◌, length, eqb}
use Rattle.ledger.specs.Choice.{pick}
use Rattle.journal.specs.Reading.{read_at}
use Rattle.journal.specs.Header.{header_of}
use Rattle.journal.specs.Found.{Found, One, Stop, End, Heading}
use Rattle.journal.specs.declared.records.Record.{Record}

-- a record, where it stands, and the position after it
pub record Entry : Type 0 where
  pub place : ℕ
  pub what : Record
  pub next : ℕ

abbrev pub entry : ℕ → Record → ℕ → Entry
entry at r next = record { place = at; what = r; next = next }

-- the records; the position that they reach; the number that stands there, 0 where the bytes end
pub record Walk : Type 0 where
  pub entries : List Entry
  pub stop : ℕ
  pub number : ℕ

abbrev pub onto : Entry → Walk → Walk
onto e w = record { entries = e ∷ w.entries; stop = w.stop; number = w.number }

abbrev pub halt : ℕ → ℕ → Walk
halt at n = record { entries = []; stop = at; number = n }

abbrev pub step : ℕ → Found → (ℕ → Walk) → Walk
step at (One r next) on = onto (entry at r next) (on next)
step at (Stop n) on = halt at n
step at End on = halt at 0

-- f records at most
unfoldable pub walk_from : ℕ → ℕ → List ℕ → ℕ → Walk
walk_from zero v j at = halt at 0
walk_from (suc f) v j at = step at (read_at v j at) (walk_from f v j)

-- a record is at least one byte, so the journal's length is enough
unfoldable pub walk : ℕ → List ℕ → ℕ → Walk
walk v j at = walk_from (length j) v j at

-- a walk from behind a header; where that is not good, no record and its number
unfoldable pub behind : Heading → (ℕ → ℕ → Walk) → Walk
behind h w = pick (eqb h.number 0) (w h.version h.place) (halt 0 h.number)

-- the walk of a journal
unfoldable pub walk_of : List ℕ → Walk
walk_of j = behind (header_of j) (λ v at. walk v j at)

-- the number that a journal ends with. It takes the bytes alone: no keeper, and no answer of one, has a say in where a journal ends.
abbrev pub ending_of : List ℕ → ℕ
ending_of j = (walk_of j).number
