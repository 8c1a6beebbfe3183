-- Extracting bytes from a pool, in blocks of 10.
use Rattle.std.specs.Prelude.{ℕ, zero, suc, ◌+◌, List, [], ◌∷◌, ◌++◌, map, get_or, take, drop}
use Rattle.std.specs.Int.Bits.{bit_xor}
use Rattle.words.specs.Words.{rotl}
use Rattle.words.specs.Bytes.{swapped, words_bytes}
use Rattle.secure_hash.specs.Sha1.{initial_hash, compressed}
use Rattle.ledger.specs.Shapes.{Shape, rounds}
use Rattle.ledger.specs.Places.{blocks_of}
use Rattle.pool.specs.Mixing.{Pool, mix}

-- a hash, and the compressions that were run for it
pub record Hash : Type 0 where
  pub words : List ℕ
  pub runs : ℕ

-- n compressions over the pool's bytes, 64 at a time from word 0, with no padding. The words lie little endian and SHA-1 reads big
-- endian, so a message word is a pool word with its bytes swapped.
unfoldable pub hashed : ℕ → List ℕ → List ℕ → Hash
hashed zero h ws = record { words = h; runs = 0 }
hashed (suc n) h ws =
    let r = hashed n (compressed h (map swapped (take 16 ws))) (drop 16 ws) in
    record { words = r.words; runs = suc r.runs }

-- the hash of a whole pool, from SHA-1's initial hash
unfoldable pub pool_hash : Shape → Pool → Hash
pool_hash sh p = hashed (rounds sh) initial_hash p.words

-- word 0 ^= word 3, word 1 ^= word 4, word 2 ^= word 2 rotated left 16; the first 10 bytes of words 0, 1, 2
unfoldable pub folded : List ℕ → List ℕ
folded h =
    take 10
    (words_bytes
    (bit_xor (get_or h 0 0) (get_or h 3 0) ∷ bit_xor (get_or h 1 0) (get_or h 4 0) ∷ bit_xor (get_or h 2 0) (rotl 16 (get_or h 2 0)) ∷ []))

-- what an extraction hands over, the pool afterwards, and the compressions that it ran
pub record Extract : Type 0 where
  pub bytes : List ℕ
  pub pool : Pool
  pub runs : ℕ

-- n blocks: hash the pool, mix the five words back as 20 bytes, hand over the folded hash
unfoldable pub extract_blocks : Shape → ℕ → Pool → Extract
extract_blocks sh zero p = record { bytes = []; pool = p; runs = 0 }
extract_blocks sh (suc n) p =
    let h = pool_hash sh p in
    let e = extract_blocks sh n (mix sh p (words_bytes h.words)) in
    record { bytes = folded h.words ++ e.bytes; pool = e.pool; runs = h.runs + e.runs }

-- k bytes: the last block is shortened
abbrev pub extract : Shape → ℕ → Pool → Extract
extract sh k p =
    let e = extract_blocks sh (blocks_of k) p in
    record { bytes = take k e.bytes; pool = e.pool; runs = e.runs }
