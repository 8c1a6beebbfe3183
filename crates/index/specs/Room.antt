-- What keeps sums in their words: so many records stand before a position, each of them has at least seven bytes, and none asks for more than
-- 65,535.
use Rattle.std.specs.Prelude.{ℕ, ◌+◌, ◌*◌, ◌≤◌, List, get_or}
use Rattle.journal.specs.Header.{records_begin}

pub record Roomy (count at : ℕ) (kinds : List ℕ) (reads : ℕ) : Type 0 where
  pub short : records_begin + 7 * count ≤ at
  pub few : (i : ℕ) → get_or kinds i 0 ≤ count
  pub narrow : reads ≤ 65535 * count
