-- A clock as a person writes it.
use Rattle.std.specs.Prelude.{ℕ, ◌^◌, Bool, true, false, ◌&&◌, List, ltb}
use Rattle.ledger.specs.Choice.{pick}
use Rattle.lab.specs.Numbers.{is_number, decimal}

-- what a word says: whether it is a clock, and which
pub record Clock : Type 0 where
  pub good : Bool
  pub value : ℕ

-- decimal digits, at least one, and nothing else; zeros may stand in front; the number that they make is below 2^32
unfoldable pub is_clock : List ℕ → Bool
is_clock word = is_number word && ltb (decimal 0 word) (2 ^ 32)

-- that number; a word that is no clock says none
unfoldable pub clock_of : List ℕ → Clock
clock_of word = pick (is_clock word) (record { good = true; value = decimal 0 word }) (record { good = false; value = 0 })
