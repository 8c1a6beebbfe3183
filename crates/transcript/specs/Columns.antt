-- What a reader reads in the text of a transcript: its lines, and the seven numbers of each.
use Rattle.std.specs.Prelude.{ℕ, ◌+◌, ◌-◌, ◌*◌, length, take, eqb}
use mathlib.Core.List.{List, [], ◌∷◌, map, foldl}
use Rattle.ledger.specs.Choice.{pick}

-- a byte in front of the first of several parts
unfoldable pub in_front : ℕ → List (List ℕ) → List (List ℕ)
in_front b [] = (b ∷ []) ∷ []
in_front b (p ∷ ps) = (b ∷ p) ∷ ps

-- a text parted at each byte `sep`, which belongs to no part: one part more than there are such bytes
unfoldable pub parts : ℕ → List ℕ → List (List ℕ)
parts sep [] = [] ∷ []
parts sep (b ∷ text) = let rest = parts sep text in pick (eqb b sep) ([] ∷ rest) (in_front b rest)

-- decimal digits read as a number, the first of them the highest; 48 is `0`
unfoldable pub number_in : List ℕ → ℕ
number_in text = foldl (λ (n b : ℕ). n * 10 + (b - 48)) 0 text

-- the seven numbers of a line, which spaces part; the hex behind them is not read
unfoldable pub row_in : List ℕ → List ℕ
row_in line = map number_in (take 7 (parts 32 line))

-- every line but the last. Newlines part them, and each has one behind it: so there is nothing behind the last newline, and in front of it stands
-- the last line, `end` and a number
unfoldable pub lines_in : List ℕ → List (List ℕ)
lines_in text = let lines = parts 10 text in take (length lines - 2) lines

-- a transcript's rows of numbers
unfoldable pub rows_in : List ℕ → List (List ℕ)
rows_in text = map row_in (lines_in text)
