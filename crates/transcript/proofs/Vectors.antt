-- Lines that the definitions compute to, letter by letter: the example of the paper, bytes with both kinds of digits, and the largest
-- numbers.
use Prim.Native.Nat.{ℕ}
use mathlib.Core.Path.{◌≡◌, refl}
use mathlib.Core.List.{List, [], ◌∷◌, ◌++◌}
use Rattle.ledger.specs.Choice.{pick}
use Rattle.ledger.specs.Plans.{bare}
use Rattle.transcript.specs.Text.{digits, word_of, tail_of, hex_of, glyph_of}
use Rattle.transcript.specs.Lines.{line_of, end_of}

-- `2 0 0 0 0 0 0`, then `end 0`
pub paper : line_of (bare 2) 0 0 [] ++ end_of 0
    ≡ 50 ∷ 32 ∷ 48 ∷ 32 ∷ 48 ∷ 32 ∷ 48 ∷ 32 ∷ 48 ∷ 32 ∷ 48 ∷ 32 ∷ 48 ∷ 10 ∷ 101 ∷ 110 ∷ 100 ∷ 32 ∷ 48 ∷ 10 ∷ []
unfolding line_of end_of word_of digits tail_of pick
paper = refl

-- `0 4 512 64 1 8 30 000fa9ff`: no two of the numbers are the same
pub bytes : line_of (record { number = 0; delivered = 4; blocks = 1; compressions = 8; added = 30 }) 512 64 (0x00 ∷ 0x0f ∷ 0xa9 ∷ 0xff ∷ [])
    ≡ 48 ∷ 32 ∷ 52 ∷ 32 ∷ 53 ∷ 49 ∷ 50 ∷ 32 ∷ 54 ∷ 52 ∷ 32 ∷ 49 ∷ 32 ∷ 56 ∷ 32 ∷ 51 ∷ 48 ∷ 32 ∷ 48 ∷ 48 ∷ 48 ∷ 102 ∷ 97 ∷ 57 ∷ 102 ∷ 102 ∷ 10 ∷ []
unfolding line_of word_of digits tail_of hex_of glyph_of pick
bytes = refl

-- `4294967295`
abbrev most : List ℕ
most = 52 ∷ 50 ∷ 57 ∷ 52 ∷ 57 ∷ 54 ∷ 55 ∷ 50 ∷ 57 ∷ 53 ∷ []

-- `4294967295` seven times
pub largest : line_of (record { number = 4294967295; delivered = 4294967295; blocks = 4294967295; compressions = 4294967295; added = 4294967295 }) 4294967295 4294967295 []
    ≡ most ++ (32 ∷ most) ++ (32 ∷ most) ++ (32 ∷ most) ++ (32 ∷ most) ++ (32 ∷ most) ++ (32 ∷ most) ++ (10 ∷ [])
unfolding line_of word_of digits tail_of pick
largest = refl

-- `end 4294967295`
pub largest_end : end_of 4294967295 ≡ (101 ∷ 110 ∷ 100 ∷ 32 ∷ most) ++ (10 ∷ [])
unfolding end_of digits pick
largest_end = refl
