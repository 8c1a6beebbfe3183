-- What the rows of a transcript tell of the ledger of bits.
use Rattle.std.specs.Prelude.{List, [], ◌∷◌, map, ℕ, get_or}
use Rattle.ledger.specs.LedgerOfBits.{Books}
use Rattle.ledger.specs.declared.Answer.{Answer}
use Rattle.keeper.specs.Record.{fresh}
use Rattle.keeper.specs.Calls.{Call, public}
use Rattle.keeper.specs.Taken.{onto_key_by, brought_over_by, taken_over}

-- the answer that a row tells: its first, second, fifth, sixth and seventh number
abbrev pub answer_in : List ℕ → Answer
answer_in row = record { number = get_or row 0 0; delivered = get_or row 1 0; blocks = get_or row 4 0; compressions = get_or row 5 0; added = get_or row 6 0 }

-- the number at a place of the last row, or z where there is no row
unfoldable pub last_at : ℕ → ℕ → List (List ℕ) → ℕ
last_at place z [] = z
last_at place z (row ∷ rows) = last_at place (get_or row place 0) rows

-- the counts after the last row, its third and its fourth number; both are 0 before the first row
abbrev pub input_in : List (List ℕ) → ℕ
input_in rows = last_at 2 0 rows

abbrev pub blocking_in : List (List ℕ) → ℕ
blocking_in rows = last_at 3 0 rows

-- the books of calls on a fresh keeper of these start bytes, by the rows that tell of them
abbrev pub BooksRead : List ℕ → List Call → List (List ℕ) → Type 0
BooksRead start cs rows =
    Books (map public cs) (map answer_in rows) (input_in rows) (blocking_in rows) (taken_over onto_key_by (fresh start) cs) (taken_over brought_over_by (fresh start) cs)
