-- Numbers laid out as bytes. The rule is little endian: the lowest byte first.
use Rattle.std.specs.Prelude.{ℕ, zero, suc, ◌+◌, ◌*◌, ◌/◌, ◌%◌, ◌^◌, List, [], ◌∷◌, ◌++◌, reverse}

-- the n lowest bytes of a number, the lowest first
unfoldable pub le_bytes : ℕ → ℕ → List ℕ
le_bytes zero x = []
le_bytes (suc n) x = x % 2 ^ 8 ∷ le_bytes n (x / 2 ^ 8)

-- the number that a list of bytes makes, the lowest first
unfoldable pub le_number : List ℕ → ℕ
le_number [] = 0
le_number (b ∷ bs) = b + 2 ^ 8 * le_number bs

-- a word with its four bytes in the other order
unfoldable pub swapped : ℕ → ℕ
swapped x = le_number (reverse (le_bytes 4 x))

-- the bytes of a list of words, four to a word, the first word first
unfoldable pub words_bytes : List ℕ → List ℕ
words_bytes [] = []
words_bytes (w ∷ ws) = le_bytes 4 w ++ words_bytes ws

-- words out of bytes, four to a word; bytes that are missing at the end count as 0
unfoldable pub bytes_words : List ℕ → List ℕ
bytes_words [] = []
bytes_words (a ∷ []) = le_number (a ∷ []) ∷ []
bytes_words (a ∷ b ∷ []) = le_number (a ∷ b ∷ []) ∷ []
bytes_words (a ∷ b ∷ c ∷ []) = le_number (a ∷ b ∷ c ∷ []) ∷ []
bytes_words (a ∷ b ∷ c ∷ d ∷ bs) = le_number (a ∷ b ∷ c ∷ d ∷ []) ∷ bytes_words bs
