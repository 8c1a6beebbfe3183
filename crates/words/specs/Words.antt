-- Words of 32 bits, as numbers below 2^32: the sum that wraps, the rotation, and sums of whole lists.
use Rattle.std.specs.Prelude.{ℕ, ◌+◌, ◌-◌, ◌*◌, ◌/◌, ◌%◌, ◌^◌, List, bit_or}
use mathlib.Core.List.{zip_with}

-- the sum of two words, modulo 2^32
abbrev pub add : ℕ → ℕ → ℕ
add a b = (a + b) % 2 ^ 32

-- ROTL of FIPS 180-4 and `<<<` of RFC 7539, by k places of 32: the bits that leave on the left come back on the right
unfoldable pub rotl : ℕ → ℕ → ℕ
rotl k x = bit_or ((x * 2 ^ k) % 2 ^ 32) (x / 2 ^ (32 - k))

-- two lists of words added word by word
abbrev pub add_words : List ℕ → List ℕ → List ℕ
add_words = zip_with add
