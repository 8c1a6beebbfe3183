-- The generator's words of 48 start bytes, one by one as the code reads them.
use mathlib.Core.Path.{◌≡◌, refl, sym, ap}
use mathlib.Core.List.{List, [], ◌∷◌, ◌++◌}
use Prim.Native.Nat.{ℕ, zero, suc, ◌*◌, ◌≤◌, ◌<◌}
use native.Mathlib.Omega.{arith}
use lib.ListN.{length, get_or, take}
use Rattle.std.specs.Simd.{first_chunks}
use Rattle.words.specs.Bytes.{le_number, bytes_words}
use Rattle.words.proofs.Numbers.{length-bytes_words_whole}
use Rattle.words.proofs.WrittenOut.{gets, gets_all}
use Rattle.ledger.specs.Range.{fixed_words}

-- a word, of the bytes taken by fours
pub word_read : (n : ℕ) (bs : List ℕ) (i : ℕ) → i < n → 4 * n ≤ length bs → le_number (get_or (first_chunks 4 n bs) i []) ≡ get_or (bytes_words bs) i 0
unfolding bytes_words
word_read zero bs i h k = absurd (omega arith)
word_read (suc n) (a ∷ b ∷ c ∷ d ∷ bs) zero h k = refl
word_read (suc n) (a ∷ b ∷ c ∷ d ∷ bs) (suc i) h k = word_read n bs i (omega arith) (omega arith)
word_read (suc n) [] i h k = absurd (omega arith)
word_read (suc n) (a ∷ []) i h k = absurd (omega arith)
word_read (suc n) (a ∷ b ∷ []) i h k = absurd (omega arith)
word_read (suc n) (a ∷ b ∷ c ∷ []) i h k = absurd (omega arith)

-- the generator's first words, written out
pub first_words : (bs : List ℕ) → length bs ≡ 48 → fixed_words ++ gets 12 0 (bytes_words bs) ≡ fixed_words ++ bytes_words bs
first_words bs n = ap (λ (ws : List ℕ). fixed_words ++ ws) (sym (gets_all 12 0 (bytes_words bs) (length-bytes_words_whole bs 12 (omega (arith, n)))))

-- ---- words 0 to 3 of a generator, written out
pub front_four : (g : List ℕ) → 4 ≤ length g → get_or g 0 0 ∷ get_or g 1 0 ∷ get_or g 2 0 ∷ get_or g 3 0 ∷ [] ≡ take 4 g
front_four (a ∷ b ∷ c ∷ d ∷ g) h = refl
front_four [] h = absurd (omega arith)
front_four (a ∷ []) h = absurd (omega arith)
front_four (a ∷ b ∷ []) h = absurd (omega arith)
front_four (a ∷ b ∷ c ∷ []) h = absurd (omega arith)
