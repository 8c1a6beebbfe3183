-- The ChaCha20 generator: 16 words, of which 4 to 11 are the key and 12 and 13 the counter.
use Rattle.std.specs.Prelude.{ℕ, zero, suc, List, [], ◌∷◌, ◌++◌, eqb, get_or, set, take, drop}
use Rattle.std.specs.Int.Bits.{bit_xor}
use Rattle.words.specs.Words.{add}
use Rattle.words.specs.Bytes.{bytes_words}
use Rattle.chacha.specs.Chacha.{chacha_block, serialize}
use Rattle.ledger.specs.Choice.{pick}
use Rattle.ledger.specs.Streams.{stream_blocks, key_from}

-- words xored onto the words from i on
unfoldable pub xor_at : List ℕ → ℕ → List ℕ → List ℕ
xor_at g i [] = g
xor_at g i (w ∷ ws) = xor_at (set g i (bit_xor (get_or g i 0) w)) (suc i) ws

-- bytes xored onto the first bytes of the key, little endian
abbrev pub onto_key : List ℕ → List ℕ → List ℕ
onto_key bs g = xor_at g 4 (bytes_words bs)

-- after each block word 12 grows by one modulo 2^32, and word 13 likewise when word 12 becomes 0
unfoldable pub counted : List ℕ → List ℕ
counted g =
    let low = add (get_or g 12 0) 1 in
    set (set g 12 low) 13 (pick (eqb low 0) (add (get_or g 13 0) 1) (get_or g 13 0))

-- bytes made, the generator afterwards, and the blocks that were run
pub record Stream : Type 0 where
  pub bytes : List ℕ
  pub generator : List ℕ
  pub blocks : ℕ

-- n blocks of the 16 words
unfoldable pub stream : ℕ → List ℕ → Stream
stream zero g = record { bytes = []; generator = g; blocks = 0 }
stream (suc n) g =
    let s = stream n (counted g) in
    record { bytes = serialize (chacha_block g) ++ s.bytes; generator = s.generator; blocks = suc s.blocks }

-- the 8 words for the key
abbrev pub key_bytes : ℕ → Stream → List ℕ
key_bytes len s = take 32 (drop (key_from len) s.bytes)

-- a read of len bytes: its blocks; the first len bytes go out, and the 32 that lie past them for the key change it
unfoldable pub generated : ℕ → List ℕ → Stream
generated len g =
    let s = stream (stream_blocks len) g in
    record { bytes = take len s.bytes; generator = onto_key (key_bytes len s) s.generator; blocks = s.blocks }
