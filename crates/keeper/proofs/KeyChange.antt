-- After a read the counter goes on where it was, and the key is changed after every read, also where the last block came out even:
-- by 32 bytes that were not handed out.
use mathlib.Core.Path.{◌≡◌, refl, sym, ap, ◌∙◌}
use mathlib.Core.Bool.{Bool, true, false}
use mathlib.Core.List.{List, [], ◌∷◌, append-nil}
use Prim.Native.Nat.{ℕ, zero, suc, ◌+◌, ◌-◌, ◌*◌, ◌%◌, ◌^◌, ◌≤◌, ◌<◌}
use native.Mathlib.Omega.{arith}
use native.Mathlib.Nat.{add-zero}
use lib.Dec.{ltb}
use lib.Bits.{bit_xor}
use lib.ListN.{length, get_or, set, take, drop, length-set, length-drop}
use lib.Seq.{get_or-set_same, get_or-set_other, get_or-take, take_all, length-take-le, drop-append_seam}
use borrow.Author.Tests.{ltb-false}
use Rattle.words.specs.Bytes.{bytes_words}
use Rattle.words.proofs.Numbers.{length-bytes_words_whole}
use Rattle.chacha.specs.Chacha.{chacha_block, serialize}
use Rattle.chacha.proofs.Lengths.{length_serialized}
use Rattle.ledger.specs.Choice.{pick}
use Rattle.ledger.specs.Streams.{whole_blocks, used_up, one_more, stream_blocks, key_from}
use Rattle.ledger.proofs.Picks.{pick_both}
use Rattle.keeper.specs.Generator.{xor_at, onto_key, counted, Stream, stream, key_bytes, generated}
use Rattle.keeper.specs.Work.{counter}
use Rattle.keeper.proofs.Counter.{Gen, xor_before, key_counter, key_gen, stream-length, stream_keeps_length, stream-front, stream-more, stream_counts, unkeyed, generated_gen, generated-counter, generated-counter-planned}

-- ---- the counter is not started again
-- two reads in a row move it by the blocks of both
pub two_reads : (m n : ℕ) (g : List ℕ) → Gen g
    → counter (generated n (generated m g).generator).generator
    ≡ (counter g + ((generated m g).blocks + (generated n (generated m g).generator).blocks)) % 2 ^ 64
two_reads m n g h =
    let a = generated m g in
    omega (arith, generated-counter m g h, generated-counter n a.generator (generated_gen m g h))

-- so do two reads with a reseed in between
pub two_reads_reseeded : (m n : ℕ) (bs g : List ℕ) → length bs ≤ 32 → Gen g
    → counter (generated n (onto_key bs (generated m g).generator)).generator
    ≡ (counter g + ((generated m g).blocks + (generated n (onto_key bs (generated m g).generator)).blocks)) % 2 ^ 64
two_reads_reseeded m n bs g l h =
    let a = (generated m g).generator in
    let k : Gen a = generated_gen m g h in
    omega (arith, generated-counter m g h, key_counter bs a l, generated-counter n (onto_key bs a) (key_gen bs a l k))

-- a read of 1 to 4,096 bytes runs 1 to 65 blocks
pub some-blocks : (len : ℕ) → 1 ≤ len → len ≤ 4096 → (1 ≤ stream_blocks len) × (stream_blocks len ≤ 65)
unfolding pick
some-blocks len h k = go (one_more len)
  where
    go : (t : Bool) → (1 ≤ pick t (whole_blocks len + 1) (whole_blocks len)) × (pick t (whole_blocks len + 1) (whole_blocks len) ≤ 65)
    go true = (omega arith, omega arith)
    go false = (omega arith, omega arith)

-- one to 65 steps from a number do not lead back to it, modulo 2^64
no_return : (x b : ℕ) → 1 ≤ b → b ≤ 65 → (x + b) % 2 ^ 64 ≡ x → ⊥
no_return x b h k e = omega arith

-- so no read leaves the counter where it was
pub counter_moves : (len : ℕ) (g : List ℕ) → 1 ≤ len → len ≤ 4096 → Gen g → counter (generated len g).generator ≡ counter g → ⊥
counter_moves len g h k q e =
    let b : (1 ≤ stream_blocks len) × (stream_blocks len ≤ 65) = some-blocks len h k in
    no_return (counter g) (stream_blocks len) b.0 b.1 (sym (generated-counter-planned len g q) ∙ e)

-- ---- words of the key
-- where words are xored on, each place has its word xored on
pub xor-inside : (g : List ℕ) (i : ℕ) (ws : List ℕ) (j : ℕ) → j < length ws → i + j < length g → get_or (xor_at g i ws) (i + j) 0 ≡ bit_xor (get_or g (i + j) 0) (get_or ws j 0)
unfolding xor_at
xor-inside g i [] j h k = absurd (omega arith)
xor-inside g i (w ∷ ws) zero h k =
    rw (add-zero i)
    (xor_before (set g i (bit_xor (get_or g i 0) w)) (suc i) ws i (omega arith) ∙ get_or-set_same g i (bit_xor (get_or g i 0) w) 0 (omega arith))
xor-inside g i (w ∷ ws) (suc j) h k =
    let t = set g i (bit_xor (get_or g i 0) w) in
    let e : i + suc j ≡ suc i + j = omega arith in
    rw e
    (xor-inside t (suc i) ws j (omega arith) (omega (arith, length-set g i (bit_xor (get_or g i 0) w)))
    ∙ ap (λ (x : ℕ). bit_xor x (get_or ws j 0)) (get_or-set_other g i (suc i + j) (bit_xor (get_or g i 0) w) 0 (omega arith)))

-- ---- a block that came out even
-- a whole number of blocks, 1 or more, asks for a further one
pub even_more : (n : ℕ) → one_more (64 * suc n) ≡ true
even_more n =
    let u : used_up (64 * suc n) ≡ 64 = omega arith in
    ap (λ (k : ℕ). ltb 64 (k + 32)) u

-- the blocks that meet the length
abbrev pub met : ℕ → List ℕ → Stream
met len g = stream (whole_blocks len) g

-- where a further block is asked for, the key is changed by its first 32 bytes
pub further_key : (len : ℕ) (g : List ℕ) → length g ≡ 16 → one_more len ≡ true
    → (generated len g).generator ≡ onto_key (take 32 (serialize (chacha_block (met len g).generator))) (counted (met len g).generator)
unfolding generated pick
further_key len g k e =
    let n : whole_blocks len + 1 ≡ suc (whole_blocks len) = omega arith in
    rw (e, n, stream-more (whole_blocks len) g, stream_counts (whole_blocks len) g, ← stream-length (whole_blocks len) g k, drop-append_seam (met len g).bytes (serialize (chacha_block (met len g).generator))) refl

-- a read of 64 runs two blocks
pub even_blocks : stream_blocks 64 ≡ 2
unfolding pick
even_blocks = refl

-- and changes the key by the first 32 bytes of the second
pub even_key : (g : List ℕ) → length g ≡ 16 → (generated 64 g).generator ≡ onto_key (take 32 (serialize (chacha_block (counted g)))) (counted (counted g))
unfolding stream
even_key g h = further_key 64 g h refl

-- ---- a read of 32: one block, of which the first 32 bytes go out and the others onto the key
-- one block
pub half_blocks : stream_blocks 32 ≡ 1
unfolding pick
half_blocks = refl

-- its first half goes out
pub half_bytes : (g : List ℕ) → (generated 32 g).bytes ≡ take 32 (serialize (chacha_block g))
unfolding generated stream pick
half_bytes g = rw append-nil

-- its second half goes onto the key
pub half_key : (g : List ℕ) → length g ≡ 16 → (generated 32 g).generator ≡ onto_key (drop 32 (serialize (chacha_block g))) (counted g)
unfolding generated stream pick
half_key g h =
    rw (append-nil, take_all 32 (drop 32 (serialize (chacha_block g))) (omega (arith, length-drop 32 (serialize (chacha_block g)), length_serialized g h)))

-- ---- every read changes the whole key
-- a read of nothing does nothing
pub generated_none : (g : List ℕ) → generated 0 g ≡ record { bytes = []; generator = g; blocks = 0 }
unfolding generated stream pick bytes_words xor_at
generated_none g = refl

-- the blocks of a read have 32 bytes left for the key ..
left : (len : ℕ) → 1 ≤ len → key_from len + 32 ≤ 64 * stream_blocks len
unfolding pick
left len h = go (one_more len) refl
  where
    go : (t : Bool) → one_more len ≡ t → pick t (64 * whole_blocks len) (64 * (whole_blocks len - 1) + used_up len) + 32 ≤ 64 * pick t (whole_blocks len + 1) (whole_blocks len)
    go true e = omega arith
    go false e = omega (arith, ltb-false 64 (used_up len + 32) e)

-- .. which stand past those that are handed out
pub key_apart : (len : ℕ) → len ≤ key_from len
key_apart len = pick_both (λ (n : ℕ). len ≤ n) (one_more len) (omega arith) (omega arith)

-- 32 bytes for the key
pub key_bytes_all : (len : ℕ) (g : List ℕ) → 1 ≤ len → length g ≡ 16 → length (key_bytes len (unkeyed len g)) ≡ 32
key_bytes_all len g h k =
    let bs = (unkeyed len g).bytes in
    length-take-le 32 (drop (key_from len) bs) (omega (arith, length-drop (key_from len) bs, stream-length (stream_blocks len) g k, left len h))

-- where the words before the counter are the same, so is each of them
front_word : (a b : List ℕ) (j : ℕ) → take 12 a ≡ take 12 b → j < 12 → get_or a j 0 ≡ get_or b j 0
front_word a b j e h = sym (get_or-take 12 a j 0 h) ∙ ap (λ (x : List ℕ). get_or x j 0) e ∙ get_or-take 12 b j 0 h

-- each of the 8 words of the key is xored with a word of them
pub key_changed : (len : ℕ) (g : List ℕ) (j : ℕ) → 1 ≤ len → length g ≡ 16 → j < 8
    → get_or (generated len g).generator (4 + j) 0 ≡ bit_xor (get_or g (4 + j) 0) (get_or (bytes_words (key_bytes len (unkeyed len g))) j 0)
unfolding generated
key_changed len g j h k l =
    let bs = key_bytes len (unkeyed len g) in
    let x = (unkeyed len g).generator in
    let n : length (bytes_words bs) ≡ 8 = length-bytes_words_whole bs 8 (key_bytes_all len g h k) in
    let m : length x ≡ 16 = stream_keeps_length (stream_blocks len) g ∙ k in
    let w : get_or x (4 + j) 0 ≡ get_or g (4 + j) 0 = front_word x g (4 + j) (stream-front (stream_blocks len) g) (omega arith) in
    xor-inside x 4 (bytes_words bs) j (omega arith) (omega arith) ∙ ap (λ (y : ℕ). bit_xor y (get_or (bytes_words bs) j 0)) w
