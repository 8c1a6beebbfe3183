-- What the library's reading of bytes promises, in the words of specs/.
use Rattle.std.proofs.Common.{◌≡◌, ℕ, List, [], ◌∷◌, length, arith}
use Rattle.std.specs.Int.{w16, w32, w64, from_le_bytes}
use Rattle.words.specs.Bytes.{le_number}

-- the number that two, four and eight bytes make
pub number_2 : (b : List ℕ) → length b ≡ 2 → from_le_bytes w16 b ≡ le_number b
unfolding le_number
number_2 (b0 ∷ b1 ∷ []) h = omega arith
number_2 _ h = absurd (omega arith)

pub number_4 : (b : List ℕ) → length b ≡ 4 → from_le_bytes w32 b ≡ le_number b
unfolding le_number
number_4 (b0 ∷ b1 ∷ b2 ∷ b3 ∷ []) h = omega arith
number_4 _ h = absurd (omega arith)

pub number_8 : (b : List ℕ) → length b ≡ 8 → from_le_bytes w64 b ≡ le_number b
unfolding le_number
number_8 (b0 ∷ b1 ∷ b2 ∷ b3 ∷ b4 ∷ b5 ∷ b6 ∷ b7 ∷ []) h = omega arith
number_8 _ h = absurd (omega arith)
