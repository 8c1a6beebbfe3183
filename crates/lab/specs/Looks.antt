-- The line of a record number that was looked up: the number, and behind it what was found.
use Rattle.std.specs.Prelude.{ℕ, List, [], ◌++◌, eqb}
use Rattle.ledger.specs.Choice.{pick}
use Rattle.journal.specs.Reading.{read_at}
use Rattle.journal.specs.Header.{version_of}
use Rattle.journal.specs.Writing.{carried_by}
use Rattle.journal.specs.Found.{Found, One, Stop, End}
use Rattle.listing.specs.Listing.{found_text, gone_text}

-- the record that stands at a place; where none does, nothing
abbrev pub record_text : List ℕ → ℕ → Found → List ℕ
record_text j place (One r next) = found_text place r (carried_by j r next)
record_text j place (Stop n) = []
record_text j place End = []

-- the number as it was written, and by the answer the record at the place, in the journal's version, or that there is none
unfoldable pub look_line : List ℕ → List ℕ → ℕ → ℕ → List ℕ
look_line j name answer place = name ++ pick (eqb answer 0) (record_text j place (read_at (version_of j) j place)) gone_text
