-- The generator under xor, count, stream and read: its length, its four fixed words, and its counter, which moves by the blocks
-- that were run, modulo 2^64.
use mathlib.Core.Path.{◌≡◌, refl, sym, ap, ap₂, ◌∙◌}
use mathlib.Core.Bool.{Bool, true, false}
use mathlib.Core.List.{List, [], ◌∷◌, ◌++◌, append-nil, append_assoc}
use Prim.Native.Nat.{ℕ, zero, suc, ◌+◌, ◌*◌, ◌%◌, ◌^◌, ◌≤◌, ◌<◌}
use native.Mathlib.Omega.{arith}
use native.Mathlib.Nat.{mod-eq_of_lt}
use lib.Dec.{eqb, ltb}
use lib.Bits.{bit_xor}
use lib.ListN.{length, get_or, set, take, drop, length-set, length-take, length-append}
use lib.Seq.{get_or-set_same, get_or-set_other, take-set-le, take-take, length-take-le}
use borrow.Author.Tests.{eqb-true, eqb-false, ltb-true, ltb-false}
use Rattle.words.specs.Bytes.{bytes_words}
use Rattle.words.proofs.Numbers.{length-bytes_words}
use Rattle.chacha.specs.Chacha.{chacha_block, serialize}
use Rattle.chacha.proofs.Lengths.{length_serialized}
use Rattle.ledger.specs.Choice.{pick}
use Rattle.ledger.specs.Streams.{one_more, stream_blocks, key_from}
use Rattle.ledger.proofs.Picks.{pick_both}
use Rattle.keeper.specs.Generator.{xor_at, onto_key, counted, Stream, stream, key_bytes, generated}
use Rattle.keeper.specs.Work.{counter}

-- sixteen words; the two of the counter are words of 32 bits
pub record Gen (g : List ℕ) : Type 0 where
  pub long : length g ≡ 16
  pub low : get_or g 12 0 < 2 ^ 32
  pub high : get_or g 13 0 < 2 ^ 32

-- ---- words xored on from a place
-- the length stays
pub xor-length : (g : List ℕ) (i : ℕ) (ws : List ℕ) → length (xor_at g i ws) ≡ length g
unfolding xor_at
xor-length g i [] = refl
xor-length g i (w ∷ ws) = xor-length (set g i (bit_xor (get_or g i 0) w)) (suc i) ws ∙ length-set g i _

-- places before it stay
pub xor_before : (g : List ℕ) (i : ℕ) (ws : List ℕ) (j : ℕ) → j < i → get_or (xor_at g i ws) j 0 ≡ get_or g j 0
unfolding xor_at
xor_before g i [] j h = refl
xor_before g i (w ∷ ws) j h =
    xor_before (set g i (bit_xor (get_or g i 0) w)) (suc i) ws j (omega arith) ∙ get_or-set_other g i j _ 0 (omega arith)

-- places past the words stay
pub xor_past : (g : List ℕ) (i : ℕ) (ws : List ℕ) (j : ℕ) → i + length ws ≤ j → get_or (xor_at g i ws) j 0 ≡ get_or g j 0
unfolding xor_at
xor_past g i [] j h = refl
xor_past g i (w ∷ ws) j h =
    xor_past (set g i (bit_xor (get_or g i 0) w)) (suc i) ws j (omega arith) ∙ get_or-set_other g i j _ 0 (omega arith)

-- the words before it, as a list
pub xor-front : (n : ℕ) (g : List ℕ) (i : ℕ) (ws : List ℕ) → n ≤ i → take n (xor_at g i ws) ≡ take n g
unfolding xor_at
xor-front n g i [] h = refl
xor-front n g i (w ∷ ws) h = xor-front n (set g i (bit_xor (get_or g i 0) w)) (suc i) ws (omega arith) ∙ take-set-le n g i _ h

-- ---- bytes xored onto the key
-- the length stays, however many bytes there are
pub key_length : (bs g : List ℕ) → length (onto_key bs g) ≡ length g
key_length bs g = xor-length g 4 (bytes_words bs)

-- the four fixed words stay, however many bytes there are
pub key_top : (bs g : List ℕ) → take 4 (onto_key bs g) ≡ take 4 g
key_top bs g = xor-front 4 g 4 (bytes_words bs) (omega arith)

-- up to 32 bytes, the words past the key stay
pub key_past : (bs g : List ℕ) (j : ℕ) → length bs ≤ 32 → 12 ≤ j → get_or (onto_key bs g) j 0 ≡ get_or g j 0
key_past bs g j h k = xor_past g 4 (bytes_words bs) j (omega (arith, length-bytes_words bs))

-- and so does the counter
pub key_counter : (bs g : List ℕ) → length bs ≤ 32 → counter (onto_key bs g) ≡ counter g
key_counter bs g h = ap₂ (λ a b. a + b * 2 ^ 32) (key_past bs g 12 h (omega arith)) (key_past bs g 13 h (omega arith))

-- so a generator stays one
pub key_gen : (bs g : List ℕ) → length bs ≤ 32 → Gen g → Gen (onto_key bs g)
key_gen bs g h k =
    record { long = key_length bs g ∙ k.long; low = rw (key_past bs g 12 h (omega arith)) k.low; high = rw (key_past bs g 13 h (omega arith)) k.high }

-- ---- the counter counts
-- of two stores at 12 and 13, the first
at_12 : (g : List ℕ) (x y : ℕ) → length g ≡ 16 → get_or (set (set g 12 x) 13 y) 12 0 ≡ x
at_12 g x y h = get_or-set_other (set g 12 x) 13 12 y 0 (omega arith) ∙ get_or-set_same g 12 x 0 (omega arith)

-- and the second
at_13 : (g : List ℕ) (x y : ℕ) → length g ≡ 16 → get_or (set (set g 12 x) 13 y) 13 0 ≡ y
at_13 g x y h = get_or-set_same (set g 12 x) 13 y 0 (omega (arith, length-set g 12 x))

-- a word that does not become 0 does not wrap
below : (a : ℕ) → a < 2 ^ 32 → ((a + 1) % 2 ^ 32 ≡ 0 → ⊥) → a + 1 < 2 ^ 32
below a h z = omega arith

-- word 12 becomes 0: word 13 grows
carry_up : (a b : ℕ) → a < 2 ^ 32 → b < 2 ^ 32 → (a + 1) % 2 ^ 32 ≡ 0
    → (a + 1) % 2 ^ 32 + (b + 1) % 2 ^ 32 * 2 ^ 32 ≡ (a + b * 2 ^ 32 + 1) % 2 ^ 64
carry_up a b h k z = go (ltb (b + 1) (2 ^ 32)) refl
  where
    top : a + 1 ≡ 2 ^ 32
    top = omega arith

    go : (t : Bool) → ltb (b + 1) (2 ^ 32) ≡ t → (a + 1) % 2 ^ 32 + (b + 1) % 2 ^ 32 * 2 ^ 32 ≡ (a + b * 2 ^ 32 + 1) % 2 ^ 64
    go true e =
        let l = ltb-true (b + 1) (2 ^ 32) e in
        omega (arith, mod-eq_of_lt {n = b + 1} l, mod-eq_of_lt {n = a + b * 2 ^ 32 + 1} {m = 2 ^ 64} (omega arith))
    go false e =
        let l = ltb-false (b + 1) (2 ^ 32) e in
        let y : a + b * 2 ^ 32 + 1 ≡ 2 ^ 64 = omega arith in
        let x : b + 1 ≡ 2 ^ 32 = omega arith in
        rw (x, y, z) refl

-- both words as one number grow by one
carry : (a b : ℕ) → a < 2 ^ 32 → b < 2 ^ 32
    → (a + 1) % 2 ^ 32 + pick (eqb ((a + 1) % 2 ^ 32) 0) ((b + 1) % 2 ^ 32) b * 2 ^ 32 ≡ (a + b * 2 ^ 32 + 1) % 2 ^ 64
unfolding pick
carry a b h k = go (eqb ((a + 1) % 2 ^ 32) 0) refl
  where
    go : (t : Bool) → eqb ((a + 1) % 2 ^ 32) 0 ≡ t → (a + 1) % 2 ^ 32 + pick t ((b + 1) % 2 ^ 32) b * 2 ^ 32 ≡ (a + b * 2 ^ 32 + 1) % 2 ^ 64
    go true e = carry_up a b h k (eqb-true ((a + 1) % 2 ^ 32) 0 e)
    go false e =
        let z = eqb-false ((a + 1) % 2 ^ 32) 0 e in
        let l : a + 1 < 2 ^ 32 = below a h z in
        omega (arith, mod-eq_of_lt {n = a + 1} l, mod-eq_of_lt {n = a + b * 2 ^ 32 + 1} {m = 2 ^ 64} (omega arith))

-- the length stays
pub counted_length : (g : List ℕ) → length (counted g) ≡ length g
unfolding counted
counted_length g = go _ _
  where
    go : (x y : ℕ) → length (set (set g 12 x) 13 y) ≡ length g
    go x y = length-set (set g 12 x) 13 y ∙ length-set g 12 x

-- the words before the counter stay
pub counted_front : (g : List ℕ) → take 12 (counted g) ≡ take 12 g
unfolding counted
counted_front g = go _ _
  where
    go : (x y : ℕ) → take 12 (set (set g 12 x) 13 y) ≡ take 12 g
    go x y = take-set-le 12 (set g 12 x) 13 y (omega arith) ∙ take-set-le 12 g 12 x (omega arith)

-- a generator stays one
pub counted_gen : (g : List ℕ) → Gen g → Gen (counted g)
unfolding counted
counted_gen g h = go _ _ (omega arith) (pick_both (λ y. y < 2 ^ 32) _ (omega arith) h.high)
  where
    go : (x y : ℕ) → x < 2 ^ 32 → y < 2 ^ 32 → Gen (set (set g 12 x) 13 y)
    go x y p q =
        record { long = length-set (set g 12 x) 13 y ∙ length-set g 12 x ∙ h.long; low = rw (at_12 g x y h.long) p; high = rw (at_13 g x y h.long) q }

-- the counter grows by one, modulo 2^64
pub counted_counter : (g : List ℕ) → Gen g → counter (counted g) ≡ (counter g + 1) % 2 ^ 64
unfolding counted
counted_counter g h =
    ap₂ (λ a b. a + b * 2 ^ 32) (at_12 g _ _ h.long) (at_13 g _ _ h.long) ∙ carry (get_or g 12 0) (get_or g 13 0) h.low h.high

-- ---- n blocks in a row
-- n are reported
pub stream-blocks : (n : ℕ) (g : List ℕ) → (stream n g).blocks ≡ n
unfolding stream
stream-blocks zero g = refl
stream-blocks (suc n) g = ap suc (stream-blocks n (counted g))

-- 64 bytes each
pub stream-length : (n : ℕ) (g : List ℕ) → length g ≡ 16 → length (stream n g).bytes ≡ 64 * n
unfolding stream
stream-length zero g h = refl
stream-length (suc n) g h =
    simp length-append (omega (arith, length_serialized g h, stream-length n (counted g) (counted_length g ∙ h)))

-- the length of the generator stays
pub stream_keeps_length : (n : ℕ) (g : List ℕ) → length (stream n g).generator ≡ length g
unfolding stream
stream_keeps_length zero g = refl
stream_keeps_length (suc n) g = stream_keeps_length n (counted g) ∙ counted_length g

-- the words before the counter stay
pub stream-front : (n : ℕ) (g : List ℕ) → take 12 (stream n g).generator ≡ take 12 g
unfolding stream
stream-front zero g = refl
stream-front (suc n) g = stream-front n (counted g) ∙ counted_front g

-- of the words before the counter, the first four
four : (a b : List ℕ) → take 12 a ≡ take 12 b → take 4 a ≡ take 4 b
four a b e = sym (take-take 4 12 a (omega arith)) ∙ ap (take 4) e ∙ take-take 4 12 b (omega arith)

-- so the four fixed words stay
pub stream_top : (n : ℕ) (g : List ℕ) → take 4 (stream n g).generator ≡ take 4 g
stream_top n g = four (stream n g).generator g (stream-front n g)

-- a generator stays one
pub stream_gen : (n : ℕ) (g : List ℕ) → Gen g → Gen (stream n g).generator
unfolding stream
stream_gen zero g h = h
stream_gen (suc n) g h = stream_gen n (counted g) (counted_gen g h)

-- the counter moves by the blocks
pub stream-counter : (n : ℕ) (g : List ℕ) → Gen g → counter (stream n g).generator ≡ (counter g + n) % 2 ^ 64
unfolding stream
stream-counter zero g h = omega (arith, h.low, h.high)
stream-counter (suc n) g h = omega (arith, stream-counter n (counted g) (counted_gen g h), counted_counter g h)

-- one block more: its bytes come last, and the generator counts once more
pub stream-more : (n : ℕ) (g : List ℕ) → (stream (suc n) g).bytes ≡ (stream n g).bytes ++ serialize (chacha_block (stream n g).generator)
unfolding stream
stream-more zero g = append-nil (serialize (chacha_block g))
stream-more (suc n) g =
    ap (λ (bs : List ℕ). serialize (chacha_block g) ++ bs) (stream-more n (counted g)) ∙ sym (append_assoc (serialize (chacha_block g)) (stream n (counted g)).bytes _)

pub stream_counts : (n : ℕ) (g : List ℕ) → (stream (suc n) g).generator ≡ counted (stream n g).generator
unfolding stream
stream_counts zero g = refl
stream_counts (suc n) g = stream_counts n (counted g)

-- ---- a read of len bytes
-- its blocks, before the key is changed
abbrev pub unkeyed : ℕ → List ℕ → Stream
unkeyed len g = stream (stream_blocks len) g

-- they are enough
enough : (len : ℕ) → len ≤ 64 * stream_blocks len
enough len = pick_both (λ (n : ℕ). len ≤ 64 * n) (one_more len) (omega arith) (omega arith)

-- the key takes at most 32 bytes
pub key_bytes_most : (len : ℕ) (s : Stream) → length (key_bytes len s) ≤ 32
key_bytes_most len s = omega (arith, length-take 32 (drop (key_from len) s.bytes))

-- as many bytes as asked
pub generated-length : (len : ℕ) (g : List ℕ) → length g ≡ 16 → length (generated len g).bytes ≡ len
unfolding generated
generated-length len g h = length-take-le len (unkeyed len g).bytes (omega (arith, enough len, stream-length (stream_blocks len) g h))

-- as many blocks as planned
pub generated-blocks : (len : ℕ) (g : List ℕ) → (generated len g).blocks ≡ stream_blocks len
unfolding generated
generated-blocks len g = stream-blocks (stream_blocks len) g

-- the length of the generator stays
pub generated_keeps_length : (len : ℕ) (g : List ℕ) → length (generated len g).generator ≡ length g
unfolding generated
generated_keeps_length len g = key_length (key_bytes len (unkeyed len g)) _ ∙ stream_keeps_length (stream_blocks len) g

-- the four fixed words stay
pub generated_top : (len : ℕ) (g : List ℕ) → take 4 (generated len g).generator ≡ take 4 g
unfolding generated
generated_top len g = key_top (key_bytes len (unkeyed len g)) _ ∙ stream_top (stream_blocks len) g

-- a generator stays one
pub generated_gen : (len : ℕ) (g : List ℕ) → Gen g → Gen (generated len g).generator
unfolding generated
generated_gen len g h = key_gen (key_bytes len (unkeyed len g)) _ (key_bytes_most len (unkeyed len g)) (stream_gen (stream_blocks len) g h)

-- the counter moves by the blocks that are planned
pub generated-counter-planned : (len : ℕ) (g : List ℕ) → Gen g → counter (generated len g).generator ≡ (counter g + stream_blocks len) % 2 ^ 64
unfolding generated
generated-counter-planned len g h = key_counter (key_bytes len (unkeyed len g)) _ (key_bytes_most len (unkeyed len g)) ∙ stream-counter (stream_blocks len) g h

-- and that are reported
pub generated-counter : (len : ℕ) (g : List ℕ) → Gen g → counter (generated len g).generator ≡ (counter g + (generated len g).blocks) % 2 ^ 64
generated-counter len g h = rw (generated-blocks len g) (generated-counter-planned len g h)
