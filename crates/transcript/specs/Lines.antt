-- A line of the transcript: answer, delivered, input, blocking, blocks, compressions, units added, and the bytes.
use Rattle.std.specs.Prelude.{ℕ, ◌+◌, ◌*◌, List, [], ◌∷◌, ◌++◌, length, drop, leb}
use Rattle.transcript.specs.Text.{decimal_of, word_of, tail_of}
use Rattle.ledger.specs.Choice.{pick}
use Rattle.ledger.specs.declared.Answer.{Answer}

-- its seven numbers, with single spaces between them
abbrev pub numbers_of : Answer → ℕ → ℕ → List ℕ
numbers_of a input blocking =
    word_of a.number ++ (word_of a.delivered ++ (word_of input ++ (word_of blocking ++ (word_of a.blocks
    ++ (word_of a.compressions ++ decimal_of a.added)))))

unfoldable pub line_of : Answer → ℕ → ℕ → List ℕ → List ℕ
line_of a input blocking bytes = numbers_of a input blocking ++ (tail_of bytes ++ (10 ∷ []))

-- the last line: `end` and the number that ended it
unfoldable pub end_of : ℕ → List ℕ
end_of n = (101 ∷ 110 ∷ 100 ∷ 32 ∷ []) ++ (decimal_of n ++ (10 ∷ []))

-- the longest that a line's numbers are, seven of ten digits and six spaces; the longest line with n bytes, which has a space before them
-- and a newline behind them; the longest last line. src/lines.rt has the lines by name too
abbrev pub longest_numbers : ℕ
longest_numbers = 76

abbrev pub longest_line : ℕ → ℕ
longest_line n = longest_numbers + 2 + 2 * n

abbrev pub longest_end : ℕ
longest_end = 15

-- a room and how many bytes of it were written
pub record Written : Type 0 where
  pub count : ℕ
  pub room : List ℕ

-- a text at the start of a room
unfoldable pub at_start : List ℕ → List ℕ → Written
at_start room text = record { count = length text; room = text ++ drop (length text) room }

-- .. where the room has `most` bytes or more; nothing in a shorter one
abbrev pub text_in : ℕ → List ℕ → List ℕ → Written
text_in most room text = pick (leb most (length room)) (at_start room text) (record { count = 0; room = room })

unfoldable pub line_in : List ℕ → Answer → ℕ → ℕ → List ℕ → Written
line_in room a input blocking bytes = text_in (longest_line (length bytes)) room (line_of a input blocking bytes)

unfoldable pub end_in : List ℕ → ℕ → Written
end_in room n = text_in longest_end room (end_of n)
