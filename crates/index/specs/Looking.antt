-- A record by its number, told twice: by counting from the front, and by looking it up from the nearest entry of the index on.
use Rattle.std.specs.Prelude.{◌≡◌, ℕ, zero, suc, ◌/◌, ◌%◌, List, [], ◌∷◌, get_or, ltb, Result, Ok, Err}
use Rattle.ledger.specs.Choice.{pick}
use Rattle.ledger.specs.Refusals.{number_of}
use Rattle.ledger.specs.declared.refusals.Refusal.{Refusal}
use Rattle.ledger.specs.Numbers.{done, no_such_record}
use Rattle.journal.specs.Reading.{read_at}
use Rattle.journal.specs.Header.{version_of}
use Rattle.journal.specs.Walking.{Entry}
use Rattle.journal.specs.Found.{Found, One, Stop, End}
use Rattle.index.specs.Summary.{every, records_in}
use Rattle.index.specs.declared.summary.Index.{Index}

-- what is found: the answer, the place of the record, and the record; past the last record 18, and nothing
pub record Sought : Type 0 where
  pub answer : ℕ
  pub place : ℕ
  pub what : Found

abbrev pub there : ℕ → Found → Sought
there at x = record { answer = done; place = at; what = x }

abbrev pub nowhere : Sought
nowhere = record { answer = no_such_record; place = 0; what = End }

-- COUNTING: from the front, record by record
unfoldable pub counted : List Entry → ℕ → Sought
counted [] n = nowhere
counted (e ∷ es) zero = there e.place (One e.what e.next)
counted (e ∷ es) (suc n) = counted es n

-- the position after n records of a version; where there are not so many, after the last
abbrev pub behind_one : ℕ → Found → (ℕ → ℕ) → ℕ
behind_one at (One r next) on = on next
behind_one at (Stop n) on = at
behind_one at End on = at

unfoldable pub passed : ℕ → ℕ → List ℕ → ℕ → ℕ
passed zero v j at = at
passed (suc n) v j at = behind_one at (read_at v j at) (passed n v j)

-- LOOKING UP: at the nearest entry at or before it, and at most 63 records on from there; by how many records there are, and their places
unfoldable pub sought : ℕ → List ℕ → ℕ → List ℕ → ℕ → Sought
sought many places v j n =
    let at = passed (n % every) v j (get_or places (n / every) 0) in
    pick (ltb n many) (there at (read_at v j at)) nowhere

-- in the version that the journal says
unfoldable pub look_up : Index → List ℕ → ℕ → Sought
look_up ix j n = sought (records_in ix) ix.places (version_of j) j n

-- how the code tells it: the place, or why there is none
abbrev pub Finds : Result ℕ Refusal → Sought → Type 0
Finds (Ok at) it = (done ≡ it.answer) × (at ≡ it.place)
Finds (Err why) it = (number_of why ≡ it.answer) × (0 ≡ it.place)
