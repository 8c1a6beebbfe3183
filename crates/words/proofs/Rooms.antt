-- Bytes laid over a room that is lent: a run of stores, `sets` of the kit.
use Rattle.std.proofs.Common.{◌≡◌, ℕ, suc, ◌+◌, ◌*◌, ◌<◌, ◌≤◌, List, [], ◌∷◌, ◌++◌, length, get_or, take, drop, set, refl, ap, ◌∙◌, add-zero, add-one, arith, take-append-drop, length-take-le, take_all, take-suc, drop-set-lt}
use lib.Seq.{sets, take-set-lt}
use Rattle.words.specs.Bytes.{le_bytes, words_bytes}
use Rattle.words.proofs.Numbers.{length-words_bytes, words_bytes-suc}

-- bytes laid over a room one after another are laid over it as one list
pub sets-append : (l : List ℕ) (i : ℕ) (a b : List ℕ) → sets (sets l i a) (i + length a) b ≡ sets l i (a ++ b)
sets-append l i [] b = ap (λ (k : ℕ). sets l k b) (add-zero i)
sets-append l i (x ∷ a) b =
    let e : i + suc (length a) ≡ suc i + length a = omega arith in
    rw e (sets-append (set l i x) (suc i) a b)

-- one byte more
pub sets-suc : (l : List ℕ) (at : ℕ) (b : List ℕ) (i : ℕ) → i < length b → set (sets l at (take i b)) (at + i) (get_or b i 0) ≡ sets l at (take (suc i) b)
sets-suc l at b i h =
    let e : at + i ≡ at + length (take i b) = omega (arith, length-take-le i b (omega arith)) in
    rw (e, take-suc b i 0 h) (sets-append l at (take i b) (get_or b i 0 ∷ []))

-- .. as a loop over the bytes has it
pub one_byte_more : (l : List ℕ) (at : ℕ) (b : List ℕ) (i : ℕ) → i < length b → set (sets l at (take i b)) (at + i) (get_or b i 0) ≡ sets l at (take (i + 1) b)
one_byte_more l at b i h = rw add-one (sets-suc l at b i h)

-- the bytes of one more word, laid over a room after those of the words before it
pub sets_word : (l ws : List ℕ) (i : ℕ) → i < length ws
    → sets (sets l 0 (words_bytes (take i ws))) (i * 4) (le_bytes 4 (get_or ws i 0)) ≡ sets l 0 (words_bytes (take (suc i) ws))
sets_word l ws i h =
    let e : i * 4 ≡ 0 + length (words_bytes (take i ws)) = omega (arith, length-words_bytes (take i ws), length-take-le i ws (omega arith)) in
    rw (e, words_bytes-suc ws i h) (sets-append l 0 (words_bytes (take i ws)) (le_bytes 4 (get_or ws i 0)))

-- bytes laid over the front of a room, where they fit into it, are laid over the room
pub sets-front : (n : ℕ) (l : List ℕ) (i : ℕ) (vs : List ℕ) → i + length vs ≤ n → sets (take n l) i vs ++ drop n l ≡ sets l i vs
sets-front n l i [] h = take-append-drop n l
sets-front n l i (v ∷ vs) h =
    rw (← take-set-lt n l i v (omega arith), ← drop-set-lt n l i v (omega arith)) (sets-front n (set l i v) (suc i) vs (omega arith))

-- ---- the whole of a room
-- past its first place
pub sets-cons : (x : ℕ) (l : List ℕ) (i : ℕ) (vs : List ℕ) → sets (x ∷ l) (suc i) vs ≡ x ∷ sets l i vs
sets-cons x l i [] = refl
sets-cons x l i (v ∷ vs) = sets-cons x (set l i v) (suc i) vs

-- over no room at all
pub sets_none : (i : ℕ) (vs : List ℕ) → sets [] i vs ≡ []
sets_none i [] = refl
sets_none i (v ∷ vs) = sets_none (suc i) vs

-- over the whole of it: what has no place is dropped
pub sets_over : (l vs : List ℕ) → length l ≤ length vs → sets l 0 vs ≡ take (length l) vs
sets_over [] vs h = sets_none 0 vs
sets_over (x ∷ l) [] h = absurd (omega arith)
sets_over (x ∷ l) (v ∷ vs) h = sets-cons v l 0 vs ∙ ap (λ (t : List ℕ). v ∷ t) (sets_over l vs (omega arith))

-- a room of just as many bytes takes them all
pub sets_whole : (l vs : List ℕ) → length l ≡ length vs → sets l 0 vs ≡ vs
sets_whole l vs e = sets_over l vs (omega arith) ∙ take_all (length l) vs (omega arith)
