-- The bytes that change the key: of the last block of a read, or of one block more.
use Rattle.std.proofs.Common.{◌≡◌, ℕ, suc, ◌+◌, ◌-◌, ◌*◌, ◌<◌, ◌≤◌, List, [], ◌∷◌, length, take, drop, sym, refl, ap, arith, le-ltb, lt-ltb}
use lib.Seq.{drop-append-add, take-append-le}
use Rattle.words.specs.Bytes.{bytes_words}
use Rattle.chacha.specs.Chacha.{chacha_block, serialize}
use Rattle.ledger.specs.Choice.{pick}
use Rattle.ledger.specs.Streams.{whole_blocks, used_up, one_more}
use Rattle.ledger.proofs.Picks.{pick_both}
use Rattle.keeper.specs.Generator.{xor_at, onto_key, counted, stream, generated}
use Rattle.keeper.proofs.Counter.{stream-length, stream-more}
use Rattle.keeper.proofs.KeyChange.{further_key}

-- a read's bytes: those of the blocks that meet its length, one block more or not
pub read-bytes : (len : ℕ) (g : List ℕ) → length g ≡ 16 → (generated len g).bytes ≡ take len (stream (whole_blocks len) g).bytes
unfolding generated
read-bytes len g h =
    let w = whole_blocks len in
    let n : w + 1 ≡ suc w = omega arith in
    pick_both (λ (m : ℕ). take len (stream m g).bytes ≡ take len (stream w g).bytes) (one_more len)
    (rw (n, stream-more w g) (take-append-le len (stream w g).bytes _ (omega (arith, stream-length w g h)))) refl

-- one of no bytes changes nothing
pub read_none : (out g : List ℕ) → length out ≡ 0 → (out ≡ (generated (length out) g).bytes) × (g ≡ (generated (length out) g).generator)
unfolding generated stream pick xor_at bytes_words
read_none [] g h = (refl, refl)
read_none (x ∷ out) g h = absurd (omega arith)

-- the key changed from one block more
pub read-further : (len : ℕ) (g t b n r : List ℕ) → length g ≡ 16 → 64 < used_up len + 32
    → t ≡ (stream (whole_blocks len) g).generator → b ≡ serialize (chacha_block t) → n ≡ counted t → r ≡ onto_key (take 32 b) n
    → r ≡ (generated len g).generator
read-further len g t b n r lg h et eb en er = rw (er, en, eb, et) (sym (further_key len g lg (lt-ltb 64 (used_up len + 32) h)))

-- the bytes of a stream from a place in its last block on are the block's own
last_bytes : (n w u : ℕ) (g : List ℕ) → length g ≡ 16 → n ≡ suc w → drop (64 * w + u) (stream n g).bytes ≡ drop u (serialize (chacha_block (stream w g).generator))
last_bytes n w u g lg en = rw (en, stream-more w g, ← stream-length w g lg) (drop-append-add (stream w g).bytes _ u)

-- the key changed from what the last block has left
pub read-within : (len : ℕ) (g t b r : List ℕ) (u n : ℕ) → length g ≡ 16 → 1 ≤ len → used_up len + 32 ≤ 64
    → t ≡ (stream (whole_blocks len) g).generator → b ≡ serialize (chacha_block (stream (whole_blocks len - 1) g).generator)
    → u ≡ used_up len → n ≡ 32 → r ≡ onto_key (take n (drop u b)) t
    → r ≡ (generated len g).generator
unfolding generated pick
read-within len g t b r u n lg one h et eb eu en er =
    let e : whole_blocks len ≡ suc (whole_blocks len - 1) = omega arith in
    rw (le-ltb 64 (used_up len + 32) h, er, et, eb, eu, en)
    (ap (λ (l : List ℕ). onto_key (take 32 l) (stream (whole_blocks len) g).generator) (sym (last_bytes (whole_blocks len) (whole_blocks len - 1) (used_up len) g lg e)))
