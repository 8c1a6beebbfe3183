-- The key stream block by block, and its bytes laid over a room.
use Rattle.std.proofs.Common.{◌≡◌, ℕ, zero, suc, ◌+◌, ◌-◌, ◌*◌, ◌<◌, ◌≤◌, List, [], ◌∷◌, ◌++◌, length, take, drop, sym, refl, ap, ◌∙◌, append-nil, add-one, arith, length-drop, length-take-le, drop_of_length-le, take_all}
use lib.Seq.{sets}
use Rattle.words.proofs.Rooms.{sets-append, sets-front, sets-cons, sets_none, sets_over, sets_whole}
use Rattle.chacha.specs.Chacha.{chacha_block, serialize}
use Rattle.chacha.proofs.Lengths.{length_serialized}
use Rattle.ledger.specs.Streams.{whole_blocks}
use Rattle.keeper.specs.Generator.{counted, stream}
use Rattle.keeper.proofs.Counter.{stream-length, stream_keeps_length, stream-more, stream_counts}

-- ---- bytes laid over a room
-- over what stands behind its first k places
sets_back : (k : ℕ) (l vs : List ℕ) → take k l ++ sets (drop k l) 0 vs ≡ sets l k vs
sets_back zero l vs = refl
sets_back (suc k) [] vs = sets_none 0 vs ∙ sym (sets_none (suc k) vs)
sets_back (suc k) (x ∷ l) vs = ap (λ (t : List ℕ). x ∷ t) (sets_back k l vs) ∙ sym (sets-cons x l k vs)

-- .. as the code has it: they are laid over the part from k to the end, and the part is put back
sets_part : (k : ℕ) (l part vs : List ℕ) → part ≡ sets (take (length l - k) (drop k l)) 0 vs
    → take k l ++ (part ++ drop (length l - k) (drop k l)) ≡ sets l k vs
sets_part k l part vs e =
    let n : length (drop k l) ≤ length l - k = omega (arith, length-drop k l) in
    let p : part ≡ sets (drop k l) 0 vs = rw (take_all (length l - k) (drop k l) n) at e in
    rw (p, drop_of_length-le (drop k l) n, append-nil (sets (drop k l) 0 vs)) (sets_back k l vs)

-- as many bytes as a room has places for: all of it, or its front
pub over_all : (l vs w : List ℕ) → w ≡ take (length l) vs → length l ≤ length vs → w ≡ sets l 0 vs
over_all l vs w e h = e ∙ sym (sets_over l vs h)

pub over_front : (n : ℕ) (l vs w : List ℕ) → w ≡ vs → length vs ≡ n → n ≤ length l → w ++ drop n l ≡ sets l 0 vs
over_front n l vs w e k h =
    let f : length (take n l) ≡ length vs = length-take-le n l h ∙ sym k in
    rw (e, ← sets-front n l 0 vs (omega arith), sets_whole (take n l) vs f)

-- over a room of 64 bytes, a block's bytes: that is all the room then has
pub whole_block : (s room b : List ℕ) → length s ≡ 16 → length room ≡ 64 → b ≡ sets room 0 (serialize (chacha_block s)) → b ≡ serialize (chacha_block s)
whole_block s room b ls lr e =
    let n : length (serialize (chacha_block s)) ≡ 64 = length_serialized s ls in
    e ∙ sets_whole room (serialize (chacha_block s)) (omega arith)

-- ---- a room into which n whole blocks are laid
pub record Filled (g start out s : List ℕ) (n : ℕ) : Type 0 where
  pub moved : s ≡ (stream n g).generator
  pub laid : out ≡ sets start 0 (stream n g).bytes

-- none is laid
pub filled_none : (g start : List ℕ) → Filled g start start g 0
unfolding stream
filled_none g start = record { moved = refl; laid = refl }

-- one more is laid
more : (g start out s next over : List ℕ) (n : ℕ) → length s ≡ 16 → next ≡ counted s → over ≡ sets out (64 * n) (serialize (chacha_block s)) → Filled g start out s n
    → Filled g start over next (n + 1)
more g start out s next over n ls en eo f =
    let lg : length g ≡ 16 = sym (stream_keeps_length n g) ∙ ap length (sym f.moved) ∙ ls in
    let e : 64 * n ≡ 0 + length (stream n g).bytes = omega (arith, stream-length n g lg) in
    record {
      moved = rw (add-one, en, f.moved) (sym (stream_counts n g));
      laid = rw (add-one, eo, f.laid, e, f.moved, stream-more n g) (sets-append start 0 (stream n g).bytes _);
    }

-- .. as the code has it, over the part of the room that is left
pub filled_more : (g start out s part next : List ℕ) (n : ℕ) → length s ≡ 16 → next ≡ counted s
    → part ≡ sets (take (length out - 64 * n) (drop (64 * n) out)) 0 (serialize (chacha_block s)) → Filled g start out s n
    → Filled g start (take (64 * n) out ++ (part ++ drop (length out - 64 * n) (drop (64 * n) out))) next (n + 1)
filled_more g start out s part next n ls en ep f = more g start out s next _ n ls en (sets_part (64 * n) out part (serialize (chacha_block s)) ep) f

-- the last is laid, by way of a room of 64 bytes, and the room is full
pub filled_all : (g start out s part next room last : List ℕ) (n : ℕ) → length s ≡ 16 → length room ≡ 64 → 64 * n < length start → length start ≤ 64 * n + 64
    → next ≡ counted s → last ≡ sets room 0 (serialize (chacha_block s)) → part ≡ sets (take (length out - 64 * n) (drop (64 * n) out)) 0 last → Filled g start out s n
    → (take (64 * n) out ++ (part ++ drop (length out - 64 * n) (drop (64 * n) out)) ≡ take (length start) (stream (whole_blocks (length start)) g).bytes)
    × ((next ≡ (stream (whole_blocks (length start)) g).generator)
    × (last ≡ serialize (chacha_block (stream (whole_blocks (length start) - 1) g).generator)))
unfolding more
filled_all g start out s part next room last n ls lr lo hi en er ep f =
    let el = whole_block s room last ls lr er in
    let a = more g start out s next _ n ls en (sets_part (64 * n) out part (serialize (chacha_block s)) (rw el at ep)) f in
    let lg : length g ≡ 16 = sym (stream_keeps_length n g) ∙ ap length (sym f.moved) ∙ ls in
    let w : whole_blocks (length start) ≡ n + 1 = omega arith in
    let d : n + 1 - 1 ≡ n = omega arith in
    let le : length start ≤ length (stream (n + 1) g).bytes = omega (arith, stream-length (n + 1) g lg) in
    rw (w, d) (a.laid ∙ sets_over start (stream (n + 1) g).bytes le, (a.moved, rw (el, f.moved)))
