-- What the proofs of extracting cite: a block of the message, the hash of a pool, hashes as bytes, one block more in the room.
use mathlib.Core.Path.{◌≡◌, refl, sym, ap, ◌∙◌}
use mathlib.Core.Logic.{⊎_elim}
use mathlib.Core.List.{List, [], ◌∷◌, ◌++◌, map, map-append, append_assoc, append-nil}
use Prim.Native.Nat.{ℕ, zero, suc, ◌+◌, ◌-◌, ◌/◌, ◌%◌, ◌≤◌, ◌<◌, min}
use native.Mathlib.Numerals.{add-one}
use native.Mathlib.Omega.{arith}
use borrow.Rule.Slice.PartMut.{put_mid}
use lib.Bits.{bit_xor}
use lib.ListN.{length, get_or, set, take, drop, length-append, length-drop}
use lib.Seq.{sets, length-sets, sets-eq, take_all, take-nil, take_at, take-suc, take-suc-set, drop-drop, get_or-drop, length-take-le}
use Rattle.words.specs.Words.{rotl}
use Rattle.words.specs.Bytes.{le_bytes, swapped, words_bytes}
use Rattle.secure_hash.specs.Sha1.{compressed}
use Rattle.ledger.specs.Choice.{pick}
use Rattle.ledger.specs.Shapes.{Shape, rounds}
use Rattle.ledger.specs.Places.{blocks_of}
use Rattle.pool.specs.Mixing.{Pool, mix}
use Rattle.pool.specs.Extracting.{hashed, pool_hash, folded, Extract, extract_blocks, extract}
use Rattle.mixer.specs.Sizes.{shape_of, Size}
use Rattle.pool.proofs.Extracted.{folded-length}

-- ---- a block of the message
-- one more word of it
pub message_suc : (ws m : List ℕ) (k i v : ℕ) → i < 16 → length m ≡ 16 → k + 16 ≤ length ws → v ≡ swapped (get_or ws (k + i) 0)
    → take i m ≡ map swapped (take i (drop k ws)) → take (i + 1) (set m i v) ≡ map swapped (take (i + 1) (drop k ws))
message_suc ws m k i v h l r e inv =
    let d : i < length (drop k ws) = omega (arith, length-drop k ws) in
    rw (add-one, take-suc-set m i v (omega arith), take-suc (drop k ws) i 0 d, map-append swapped (take i (drop k ws)) (get_or (drop k ws) i 0 ∷ []), get_or-drop k ws i 0, inv, e)

-- all 16
pub message_all : (ws m : List ℕ) (k i : ℕ) → i ≡ 16 → length m ≡ 16 → take i m ≡ map swapped (take i (drop k ws)) → m ≡ map swapped (take 16 (drop k ws))
message_all ws m k i e l inv = sym (take_all 16 m (omega arith)) ∙ (rw e at inv)

-- ---- the hash of a pool
-- as many compressions as the shape says
pub hash_start : (n : ℕ) → Size n → (n - 0) / 16 ≡ rounds (shape_of n)
unfolding shape_of pick
hash_start n z = ⊎_elim (λ e. rw e) (λ e. rw e) z.one_of

-- no word is left over
pub in_blocks : (n : ℕ) → Size n → n % 16 ≡ 0
in_blocks n z = ⊎_elim (λ e. rw e) (λ e. rw e) z.one_of

-- one more compression
pub hash_more : (n : ℕ) (ws h g r : List ℕ) (k : ℕ) → k < n → n % 16 ≡ 0 → k % 16 ≡ 0
    → g ≡ compressed h (map swapped (take 16 (drop k ws)))
    → (hashed ((n - k) / 16) h (drop k ws)).words ≡ r → (hashed ((n - (k + 16)) / 16) g (drop (k + 16) ws)).words ≡ r
unfolding hashed
hash_more n ws h g r k lt l m e i =
    let s : (n - k) / 16 ≡ suc ((n - (k + 16)) / 16) = omega arith in
    rw (e, ← drop-drop 16 k ws) (rw s at i)

-- none is left
pub hash_done : (n : ℕ) (ws h r : List ℕ) (k : ℕ) → n ≤ k → (hashed ((n - k) / 16) h (drop k ws)).words ≡ r → h ≡ r
unfolding hashed
hash_done n ws h r k le i =
    let z : (n - k) / 16 ≡ 0 = omega arith in
    rw z at i

-- ---- hashes as bytes
-- four bytes, written out
abbrev four : List ℕ → List ℕ → List ℕ
four a t = get_or a 0 0 ∷ get_or a 1 0 ∷ get_or a 2 0 ∷ get_or a 3 0 ∷ t

-- the ten of a folded hash
pub bytes_folded : (h a b c : List ℕ) (r : ℕ) → a ≡ le_bytes 4 (bit_xor (get_or h 0 0) (get_or h 3 0)) → b ≡ le_bytes 4 (bit_xor (get_or h 1 0) (get_or h 4 0))
    → r ≡ rotl 16 (get_or h 2 0) → c ≡ le_bytes 4 (bit_xor (get_or h 2 0) r) → four a (four b (get_or c 0 0 ∷ get_or c 1 0 ∷ [])) ≡ folded h
unfolding le_bytes words_bytes folded
bytes_folded h a b c r ea eb er ec = rw (ea, eb, ec, er)

-- ---- the room
-- a block of which the front is taken
take-front : (m : ℕ) (f g : List ℕ) → take m (f ++ g) ≡ take (min (length f) m) f ++ take (m - length f) g
take-front m [] g =
    let e : m - 0 ≡ m = omega arith in
    rw (e, take-nil (min 0 m))
take-front zero (x ∷ f) g =
    let a : min (suc (length f)) 0 ≡ 0 = omega arith in
    let b : 0 - suc (length f) ≡ 0 = omega arith in
    rw (a, b)
take-front (suc m) (x ∷ f) g =
    let a : min (suc (length f)) (suc m) ≡ suc (min (length f) m) = omega arith in
    let b : suc m - suc (length f) ≡ m - length f = omega arith in
    rw (a, b) (ap (λ (t : List ℕ). x ∷ t) (take-front m f g))

-- a list laid into a room: what stands up to its end
laid : (out v : List ℕ) (k : ℕ) → k + length v ≤ length out → take (k + length v) (sets out k v) ≡ take k out ++ v
laid out v k h =
    let l : length (take k out ++ v) ≡ k + length v = omega (arith, length-append (take k out) v, length-take-le k out (omega arith)) in
    rw (sets-eq v out k h) (take_at (take k out ++ v) _ _ l)

-- a front that is the whole of a list is so however far past its end it is asked for
front_all : (l : List ℕ) (n m : ℕ) → n ≤ m → min m (length l) ≤ n → take m l ≡ take n l
front_all [] n m h k = take-nil m ∙ sym (take-nil n)
front_all (x ∷ l) zero zero h k = refl
front_all (x ∷ l) zero (suc m) h k = absurd (omega arith)
front_all (x ∷ l) (suc n) zero h k = absurd (omega arith)
front_all (x ∷ l) (suc n) (suc m) h k = ap (λ (t : List ℕ). x ∷ t) (front_all l n m (omega arith) (omega arith))

-- a part of a room that is written over
pub laid_part : (out v : List ℕ) (k e : ℕ) → k + length v ≤ length out → e ≡ length v → put_mid k e out v ≡ sets out k v
laid_part out v k e h q =
    rw q
    (ap (λ (t : List ℕ). take k out ++ (v ++ t)) (drop-drop (length v) k out)
    ∙ sym (append_assoc (take k out) v (drop (k + length v) out))
    ∙ sym (sets-eq v out k h))

-- what is left of an extraction into a room of which k bytes are filled gives the whole
pub record Left (sh : Shape) (p : Pool) (out : List ℕ) (k : ℕ) (whole : Extract) : Type 0 where
  pub pool_left : (extract sh (length out - k) p).pool ≡ whole.pool
  pub bytes_left : take k out ++ (extract sh (length out - k) p).bytes ≡ whole.bytes

pub left_start : (sh : Shape) (p : Pool) (out : List ℕ) → Left sh p out 0 (extract sh (length out) p)
left_start sh p out =
    let e : length out - 0 ≡ length out = omega arith in
    record { pool_left = rw e; bytes_left = rw e }

-- one block of m bytes
pool_more : (sh : Shape) (p : Pool) (m : ℕ) → 0 < m
    → (extract_blocks sh (blocks_of m) p).pool ≡ (extract_blocks sh (blocks_of (m - 10)) (mix sh p (words_bytes (pool_hash sh p).words))).pool
unfolding extract_blocks
pool_more sh p m h =
    let e : (m + 9) / 10 ≡ suc ((m - 10 + 9) / 10) = omega arith in
    rw e

bytes_more : (sh : Shape) (p : Pool) (m : ℕ) → 0 < m
    → (extract_blocks sh (blocks_of m) p).bytes ≡ folded (pool_hash sh p).words ++ (extract_blocks sh (blocks_of (m - 10)) (mix sh p (words_bytes (pool_hash sh p).words))).bytes
unfolding extract_blocks
bytes_more sh p m h =
    let e : (m + 9) / 10 ≡ suc ((m - 10 + 9) / 10) = omega arith in
    rw e

-- its bytes, shortened to m
bytes_front : (sh : Shape) (p : Pool) (m : ℕ) → 0 < m
    → take m (extract_blocks sh (blocks_of m) p).bytes
    ≡ take (min 10 m) (folded (pool_hash sh p).words) ++ take (m - 10) (extract_blocks sh (blocks_of (m - 10)) (mix sh p (words_bytes (pool_hash sh p).words))).bytes
bytes_front sh p m h =
    rw (bytes_more sh p m h, take-front m (folded (pool_hash sh p).words) _, folded-length (pool_hash sh p).words)

-- one more block is laid into the room; the last one is shorter, and nothing is left after it
pub left_more : (sh : Shape) (p q : Pool) (out into b : List ℕ) (k : ℕ) (whole : Extract) → k < length out
    → b ≡ folded (pool_hash sh p).words → q ≡ mix sh p (words_bytes (pool_hash sh p).words)
    → into ≡ sets out k (take (min 10 (length out - k)) b)
    → Left sh p out k whole → Left sh q into (k + 10) whole
left_more sh p q out into b k whole h eb eq ei i =
    let n : ℕ = min 10 (length out - k) in
    let v : List ℕ = take n b in
    let lb : length b ≡ 10 = ap length eb ∙ folded-length (pool_hash sh p).words in
    let lv : length v ≡ n = length-take-le n b (omega arith) in
    let li : length into ≡ length out = ap length ei ∙ length-sets out k v in
    let m : length into - (k + 10) ≡ length out - k - 10 = omega arith in
    let f : take (k + n) into ≡ take k out ++ v = rw ei (rw lv at (laid out v k (omega arith))) in
    let t : take (k + 10) into ≡ take k out ++ v = front_all into (k + n) (k + 10) (omega arith) (omega arith) ∙ f in
    record {
      pool_left = rw (m, eq) (sym (pool_more sh p (length out - k) (omega arith)) ∙ i.pool_left);
      bytes_left = rw (m, t, eq, append_assoc) (rw (bytes_front sh p (length out - k) (omega arith), ← eb) at i.bytes_left);
    }

-- .. the same, as the code has it: the hash by itself
pub left_step : (sh : Shape) (p q : Pool) (out into b h : List ℕ) (k : ℕ) (whole : Extract) → k < length out
    → h ≡ (pool_hash sh p).words → b ≡ folded h → q ≡ mix sh p (words_bytes h)
    → into ≡ sets out k (take (min 10 (length out - k)) b)
    → Left sh p out k whole → Left sh q into (k + 10) whole
left_step sh p q out into b h k whole lt eh eb eq ei i =
    left_more sh p q out into b k whole lt (rw eh at eb) (rw eh at eq) ei i

-- none is left
pub left_done : (sh : Shape) (p : Pool) (out : List ℕ) (k : ℕ) (whole : Extract) → length out ≤ k → Left sh p out k whole → (p ≡ whole.pool) × (out ≡ whole.bytes)
unfolding extract_blocks
left_done sh p out k whole h i =
    let z : length out - k ≡ 0 = omega arith in
    (rw z at i.pool_left, rw (z, take_all k out h, append-nil out) at i.bytes_left)

-- .. after one more block
pub left_last : (sh : Shape) (p q : Pool) (out into b h : List ℕ) (k : ℕ) (whole : Extract) → k < length out → length out ≤ k + 10
    → h ≡ (pool_hash sh p).words → b ≡ folded h → q ≡ mix sh p (words_bytes h)
    → into ≡ sets out k (take (min 10 (length out - k)) b)
    → Left sh p out k whole → (q ≡ whole.pool) × (into ≡ whole.bytes)
left_last sh p q out into b h k whole lt le eh eb eq ei i =
    let l : length into ≡ length out = ap length ei ∙ length-sets out k (take (min 10 (length out - k)) b) in
    left_done sh q into (k + 10) whole (omega arith) (left_step sh p q out into b h k whole lt eh eb eq ei i)
