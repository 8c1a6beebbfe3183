-- The SHA-1 compression of FIPS 180-4, sections 4.1.1, 4.2.1, 5.3.1 and 6.1.2, on words of 32 bits: one block of 16 words onto
-- the five words of a hash value. The message schedule is a list that grows, so that nothing here says how code keeps it: an
-- array of 80 words, or a ring of 16.
use Rattle.std.specs.Prelude.{ℕ, zero, suc, ◌+◌, ◌-◌, ◌/◌, ◌^◌, List, [], ◌∷◌, ◌++◌, bit_and, bit_xor, slice_index, slice_index_or}
use Rattle.words.specs.Words.{add, rotl, add_words}

-- Ch, Parity and Maj, section 4.1.1
unfoldable pub ch : ℕ → ℕ → ℕ → ℕ
ch x y z = bit_xor (bit_and x y) (bit_and (2 ^ 32 - 1 - x) z)

unfoldable pub parity : ℕ → ℕ → ℕ → ℕ
parity x y z = bit_xor (bit_xor x y) z

unfoldable pub maj : ℕ → ℕ → ℕ → ℕ
maj x y z = bit_xor (bit_xor (bit_and x y) (bit_and x z)) (bit_and y z)

-- f_t and K_t, sections 4.1.1 and 4.2.1, of the steps t from 20 p to 20 p + 19
unfoldable pub mix : ℕ → ℕ → ℕ → ℕ → ℕ
mix p = slice_index_or (ch ∷ parity ∷ maj ∷ parity ∷ []) p parity

unfoldable pub constant : ℕ → ℕ
constant p = slice_index (0x5a827999 ∷ 0x6ed9eba1 ∷ 0x8f1bbcdc ∷ 0xca62c1d6 ∷ []) p

-- the initial hash value, section 5.3.1
unfoldable pub initial_hash : List ℕ
initial_hash = 0x67452301 ∷ 0xefcdab89 ∷ 0x98badcfe ∷ 0x10325476 ∷ 0xc3d2e1f0 ∷ []

-- W_t of the words before it, section 6.1.2, step 1: ROTL1(W_t-3 xor W_t-8 xor W_t-14 xor W_t-16)
unfoldable pub next_word : List ℕ → ℕ → ℕ
next_word w t = rotl 1 (bit_xor (bit_xor (bit_xor (slice_index w (t - 3)) (slice_index w (t - 8))) (slice_index w (t - 14))) (slice_index w (t - 16)))

-- the first 16 + n words of the message schedule: the block, then word after word
unfoldable pub schedule : List ℕ → ℕ → List ℕ
schedule m zero = m
schedule m (suc n) = let w = schedule m n in w ++ (next_word w (16 + n) ∷ [])

-- one step on a, b, c, d, e, section 6.1.2, step 3: T = ROTL5(a) + f_t(b, c, d) + e + K_t + W_t
unfoldable pub step : ℕ → ℕ → List ℕ → List ℕ
step p w s =
    add (add (add (add (rotl 5 (slice_index s 0)) (mix p (slice_index s 1) (slice_index s 2) (slice_index s 3))) (slice_index s 4)) (constant p)) w
    ∷ slice_index s 0 ∷ rotl 30 (slice_index s 1) ∷ slice_index s 2 ∷ slice_index s 3 ∷ []

-- the n steps from step t on, with the words w
unfoldable pub run : ℕ → List ℕ → ℕ → List ℕ → List ℕ
run t w zero s = s
run t w (suc n) s = step ((t + n) / 20) (slice_index w n) (run t w n s)

-- the next hash value, section 6.1.2, step 4: 80 steps from the hash value h over the block m, and h added
unfoldable pub compressed : List ℕ → List ℕ → List ℕ
compressed h m = add_words (run 0 (schedule m 64) 80 h) h
