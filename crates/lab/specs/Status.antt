-- The status of a journal, by the number that it ends with; and of the program, by its name in the code.
use Rattle.std.specs.Prelude.{ℕ, eqb}
use Rattle.ledger.specs.Choice.{pick}
use Rattle.lab.specs.declared.status.Status.{Status}
use Rattle.lab.specs.declared.status.Status.TheVariants.{Good, Ended, Failed}

-- 0 where that is 0, else 1
unfoldable pub status_of : ℕ → ℕ
status_of number = pick (eqb number 0) 0 1

-- everything ended with 0; a journal ended with another number; something could not be read or written, or the words make no sense
abbrev pub number_of_status : Status → ℕ
number_of_status Good = 0
number_of_status Ended = 1
number_of_status Failed = 2
