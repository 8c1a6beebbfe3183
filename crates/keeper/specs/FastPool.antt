-- The interrupt fast pool: four words a, b, c, d.
use Rattle.std.specs.Prelude.{ℕ, ◌/◌, ◌%◌, ◌^◌, List, [], ◌∷◌, get_or}
use Rattle.std.specs.Int.Bits.{bit_xor}
use Rattle.words.specs.Words.{add, rotl}

-- a += b, c += d, b rotated left r, d rotated left s, d ^= a, b ^= c
abbrev pub fast_step : ℕ → ℕ → List ℕ → List ℕ
fast_step r s f =
    let a = add (get_or f 0 0) (get_or f 1 0) in
    let c = add (get_or f 2 0) (get_or f 3 0) in
    a ∷ bit_xor (rotl r (get_or f 1 0)) c ∷ c ∷ bit_xor (rotl s (get_or f 3 0)) a ∷ []

-- the two steps: with 6 and 27, then the same with 16 and 14
abbrev pub fast_round : List ℕ → List ℕ
fast_round f = fast_step 16 14 (fast_step 6 27 f)

-- a ^= low stamp ^ number, b ^= now ^ high stamp, c ^= low address, d ^= high address; then, twice over, the two steps
unfoldable pub stirred : (now number stamp address : ℕ) → List ℕ → List ℕ
stirred now number stamp address f =
    fast_round (fast_round
    (bit_xor (get_or f 0 0) (bit_xor (stamp % 2 ^ 32) number)
    ∷ bit_xor (get_or f 1 0) (bit_xor now (stamp / 2 ^ 32))
    ∷ bit_xor (get_or f 2 0) (address % 2 ^ 32)
    ∷ bit_xor (get_or f 3 0) (address / 2 ^ 32)
    ∷ []))
