-- The words of the message schedule, read off the whole of it.
use Rattle.std.proofs.Common.{◌≡◌, ℕ, zero, suc, ◌+◌, ◌-◌, ◌<◌, ◌≤◌, List, [], ◌∷◌, ◌++◌, length, get_or, sym, refl, ◌∙◌, ⊎_elim, eq-or-lt_of_le, arith, length-append}
use lib.ListN.{get_or-append}
use lib.Seq.{get_or-append_seam}
use Rattle.secure_hash.specs.Sha1.{next_word, schedule}

length-schedule : (m : List ℕ) (n : ℕ) → length (schedule m n) ≡ length m + n
unfolding schedule
length-schedule m zero = omega arith
length-schedule m (suc n) = simp length-append (omega (arith, length-schedule m n))

-- it begins with the block
pub front : (m : List ℕ) (n k : ℕ) → k < length m → get_or (schedule m n) k 0 ≡ get_or m k 0
unfolding schedule
front m zero k h = refl
front m (suc n) k h = get_or-append (schedule m n) _ 0 k (omega (arith, length-schedule m n)) ∙ front m n k h

-- W_t looks only at words before it
next_append : (w l : List ℕ) (t : ℕ) → 16 ≤ t → t ≤ length w → next_word (w ++ l) t ≡ next_word w t
unfolding next_word
next_append w l t h k =
    rw (get_or-append w l 0 (t - 3) (omega arith), get_or-append w l 0 (t - 8) (omega arith), get_or-append w l 0 (t - 14) (omega arith), get_or-append w l 0 (t - 16) (omega arith))

-- each word past the block is W_t of the schedule
pub word : (m : List ℕ) (n t : ℕ) → length m ≡ 16 → 16 ≤ t → t < 16 + n → get_or (schedule m n) t 0 ≡ next_word (schedule m n) t
unfolding schedule
word m zero t e h k = absurd (omega arith)
word m (suc n) t e h k =
    let w = schedule m n in
    let l : length w ≡ 16 + n = omega (arith, length-schedule m n) in
    let x = next_word w (16 + n) ∷ [] in
    ⊎_elim
    (λ (eq : t ≡ 16 + n). rw (eq, next_append w x (16 + n) (omega arith) (omega arith), ← l) (get_or-append_seam w (next_word w (length w)) [] 0))
    (λ (lt : t < 16 + n). get_or-append w x 0 t (omega arith) ∙ word m n t e h lt ∙ sym (next_append w x t h (omega arith)))
    (eq-or-lt_of_le (omega arith))
