-- Rows of numbers that the checker reads in texts written out letter by letter, from the definitions alone.
use mathlib.Core.Path.{◌≡◌, refl}
use mathlib.Core.List.{List, [], ◌∷◌, ◌++◌}
use Prim.Native.Nat.{ℕ}
use Rattle.ledger.specs.Choice.{pick}
use Rattle.replays.proofs.Transcripts.{seeding_line, three_line}
use Rattle.transcript.specs.Columns.{in_front, parts, number_in, row_in, lines_in, rows_in}

-- `end 10`
abbrev end_10 : List ℕ
end_10 = 101 ∷ 110 ∷ 100 ∷ 32 ∷ 49 ∷ 48 ∷ 10 ∷ []

-- the last line is no row
pub no_row : rows_in end_10 ≡ []
unfolding rows_in lines_in parts in_front pick
no_row = refl

-- numbers beside each other differ, so none can stand for its neighbour
pub one_row : rows_in (three_line ++ end_10) ≡ (0 ∷ 3 ∷ 262 ∷ 192 ∷ 0 ∷ 10 ∷ 384 ∷ []) ∷ []
unfolding rows_in lines_in row_in number_in parts in_front pick
one_row = refl

pub two_rows : rows_in (seeding_line ++ (three_line ++ end_10)) ≡ (0 ∷ 0 ∷ 7 ∷ 0 ∷ 0 ∷ 16 ∷ 1025 ∷ []) ∷ (0 ∷ 3 ∷ 262 ∷ 192 ∷ 0 ∷ 10 ∷ 384 ∷ []) ∷ []
unfolding rows_in lines_in row_in number_in parts in_front pick
two_rows = refl
