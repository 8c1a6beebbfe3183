-- The message schedule as the code keeps it: a ring of 16 words, W_t to W_t+15, each at its number modulo 16. That these are the words
-- of Sha1.antt is proofs/Held.antt; no other crate cites this file.
use Rattle.std.specs.Prelude.{ℕ, zero, suc, ◌+◌, ◌%◌, List, bit_xor, slice_index, slice_set}
use Rattle.words.specs.Words.{rotl}

-- W_t+16 of W_t+13, W_t+8, W_t+2 and W_t
unfoldable pub scheduled : ℕ → ℕ → ℕ → ℕ → ℕ
scheduled a b c d = rotl 1 (bit_xor (bit_xor (bit_xor a b) c) d)

-- one word further: W_t+16 in the place of W_t
unfoldable pub turned : ℕ → List ℕ → List ℕ
turned t r = slice_set r (t % 16) (scheduled (slice_index r ((t + 13) % 16)) (slice_index r ((t + 8) % 16)) (slice_index r ((t + 2) % 16)) (slice_index r (t % 16)))

-- n words further
unfoldable pub turns : ℕ → ℕ → List ℕ → List ℕ
turns t zero r = r
turns t (suc n) r = turned (t + n) (turns t n r)
