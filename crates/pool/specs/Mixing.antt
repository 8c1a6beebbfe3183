-- Mixing bytes into a pool of 32-bit words.
use Rattle.std.specs.Prelude.{ℕ, ◌+◌, ◌/◌, ◌%◌, ◌^◌, List, [], ◌∷◌, get_or, set}
use Rattle.std.specs.Int.Bits.{bit_xor}
use Rattle.words.specs.Words.{rotl}
use Rattle.ledger.specs.Shapes.{Shape}
use Rattle.ledger.specs.Places.{below, stepped}
use Rattle.ledger.specs.declared.Spot.{Spot}

-- a pool: its words, and where its next byte goes
pub record Pool : Type 0 where
  pub words : List ℕ
  pub spot : Spot

abbrev pub twist_table : List ℕ
twist_table =
    0x00000000 ∷ 0x3b6e20c8 ∷ 0x76dc4190 ∷ 0x4db26158 ∷ 0xedb88320 ∷ 0xd6d6a3e8 ∷ 0x9b64c2b0 ∷ 0xa00ae278 ∷ []

-- w shifted right 3, xor the twist entry w mod 8
unfoldable pub twisted : ℕ → ℕ
twisted w = bit_xor (w / 2 ^ 3) (get_or twist_table (w % 8) 0)

-- x with the words at i plus each of the taps, modulo the word count, xored in
unfoldable pub tapped : Shape → List ℕ → ℕ → List ℕ → ℕ → ℕ
tapped sh ws i [] x = x
tapped sh ws i (t ∷ ts) x = tapped sh ws i ts (bit_xor x (get_or ws ((i + t) % sh.words) 0))

-- the byte b, rotated left by r, goes in at position i: the words at i and at i plus each tap are xored in, and the outcome,
-- twisted, becomes word i
unfoldable pub mixed_words : Shape → ℕ → ℕ → ℕ → List ℕ → List ℕ
mixed_words sh i r b ws = set ws i (twisted (tapped sh ws i (0 ∷ sh.taps) (rotl r b)))

-- one byte: the position falls first; then the rotation grows
abbrev pub mix_byte : Shape → Pool → ℕ → Pool
mix_byte sh p b =
    record { words = mixed_words sh (below sh p.spot.at) p.spot.turn b p.words; spot = stepped sh p.spot }

-- bytes, the first first
unfoldable pub mix : Shape → Pool → List ℕ → Pool
mix sh p [] = p
mix sh p (b ∷ bs) = mix sh (mix_byte sh p b) bs
