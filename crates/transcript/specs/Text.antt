-- Numbers and bytes as text, and a text put into a room.
use Rattle.std.specs.Prelude.{ℕ, zero, suc, ◌+◌, ◌/◌, ◌%◌, ◌≡◌, List, [], ◌∷◌, ◌++◌, length, ltb}
use Rattle.std.proofs.lemmas.List.Edits.{sets}
use Rattle.ledger.specs.Choice.{pick}

-- a text stands at a place of a room, all else is as it was, and the next place is after it
pub record Put (before after : List ℕ) (at : ℕ) (text : List ℕ) (next : ℕ) : Type 0 where
  pub place : next ≡ at + length text
  pub stored : after ≡ sets before at text

-- n in decimal, with k digits at most
unfoldable pub digits : ℕ → ℕ → List ℕ
digits zero n = []
digits (suc k) n = pick (ltb n 10) ((48 + n) ∷ []) (digits k (n / 10) ++ ((48 + n % 10) ∷ []))

-- a number below 2^32 has ten digits at most
abbrev pub decimal_of : ℕ → List ℕ
decimal_of n = digits 10 n

-- a number and a space
unfoldable pub word_of : ℕ → List ℕ
word_of n = decimal_of n ++ (32 ∷ [])

-- hexadecimal digits: `0` to `9`, `a` to `f`
unfoldable pub glyph_of : ℕ → ℕ
glyph_of d = pick (ltb d 10) (48 + d) (87 + d)

unfoldable pub hex_of : List ℕ → List ℕ
hex_of [] = []
hex_of (b ∷ bytes) = glyph_of (b / 16) ∷ glyph_of (b % 16) ∷ hex_of bytes

-- a space before the bytes, where there are any
unfoldable pub tail_of : List ℕ → List ℕ
tail_of [] = []
tail_of (b ∷ bytes) = 32 ∷ hex_of (b ∷ bytes)
