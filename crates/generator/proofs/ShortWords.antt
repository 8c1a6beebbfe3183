-- Bytes read as words, of which the last may be short, and words xored on one at a time.
use Rattle.std.proofs.Common.{◌≡◌, ℕ, suc, ◌+◌, ◌<◌, ◌≤◌, min, List, [], ◌∷◌, ◌++◌, length, get_or, set, refl, arith}
use lib.Bits.{bit_xor}
use Rattle.words.specs.Bytes.{le_number, bytes_words}
use Rattle.keeper.specs.Generator.{xor_at}

-- four bytes, where those that are missing count as 0
pub four_bytes : (l : List ℕ) → length l ≤ 4 → le_number (get_or l 0 0 ∷ get_or l 1 0 ∷ get_or l 2 0 ∷ get_or l 3 0 ∷ []) ≡ le_number l
unfolding le_number
four_bytes [] h = refl
four_bytes (a ∷ []) h = omega arith
four_bytes (a ∷ b ∷ []) h = omega arith
four_bytes (a ∷ b ∷ c ∷ []) h = omega arith
four_bytes (a ∷ b ∷ c ∷ d ∷ []) h = refl
four_bytes (a ∷ b ∷ c ∷ d ∷ e ∷ l) h = absurd (omega arith)

-- bytes as words: the first word, and the words of the other bytes
words_first : (four rest : List ℕ) → 0 < length (four ++ rest) → length four ≡ min 4 (length (four ++ rest)) → bytes_words (four ++ rest) ≡ le_number four ∷ bytes_words rest
unfolding bytes_words
words_first [] rest h e = absurd (omega arith)
words_first (a ∷ []) [] h e = refl
words_first (a ∷ b ∷ []) [] h e = refl
words_first (a ∷ b ∷ c ∷ []) [] h e = refl
words_first (a ∷ b ∷ c ∷ d ∷ []) rest h e = refl
words_first (a ∷ []) (r ∷ rest) h e = absurd (omega arith)
words_first (a ∷ b ∷ []) (r ∷ rest) h e = absurd (omega arith)
words_first (a ∷ b ∷ c ∷ []) (r ∷ rest) h e = absurd (omega arith)
words_first (a ∷ b ∷ c ∷ d ∷ x ∷ four) rest h e = absurd (omega arith)

-- one word of some bytes, xored on
pub xor_more : (g four rest left whole : List ℕ) (size i j n w : ℕ) → size ≡ 4 → rest ≡ four ++ left → length four ≡ min size (length rest) → 0 < length rest
    → j ≡ i → n ≡ i + 1 → w ≡ le_number four → xor_at g (4 + i) (bytes_words rest) ≡ whole
    → xor_at (set g (4 + j) (bit_xor (get_or g (4 + j) 0) w)) (4 + n) (bytes_words left) ≡ whole
unfolding xor_at
xor_more g four rest left whole size i j n w es er el h ej en ew x =
    let more : 0 < length (four ++ left) = rw er at h in
    let long : length four ≡ min 4 (length (four ++ left)) = rw (es, er) at el in
    let first : xor_at g (4 + i) (le_number four ∷ bytes_words left) ≡ whole = rw (er, words_first four left more long) at x in
    let next : 4 + (i + 1) ≡ suc (4 + i) = omega arith in
    rw (ej, en, ew, next) first

-- no byte is left
pub xor_done : (g rest whole : List ℕ) (i : ℕ) → length rest ≡ 0 → xor_at g i (bytes_words rest) ≡ whole → g ≡ whole
unfolding xor_at bytes_words
xor_done g [] whole i h x = x
xor_done g (b ∷ rest) whole i h x = absurd (omega arith)
