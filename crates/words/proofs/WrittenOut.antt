-- A list of a known length, written out, whatever the length.
use Rattle.std.proofs.Common.{◌≡◌, ℕ, zero, suc, ◌+◌, List, [], ◌∷◌, length, get_or, drop, ap, ◌∙◌, arith, drop_of_length-le, drop-cons}

-- n elements, from place i on
abbrev pub gets : ℕ → ℕ → List ℕ → List ℕ
gets zero i s = []
gets (suc n) i s = get_or s i 0 ∷ gets n (suc i) s

pub gets_all : (n i : ℕ) (s : List ℕ) → length s ≡ i + n → drop i s ≡ gets n i s
gets_all zero i s h = drop_of_length-le s {i = i} (omega arith)
gets_all (suc n) i s h = drop-cons s i 0 (omega arith) ∙ ap (λ (t : List ℕ). get_or s i 0 ∷ t) (gets_all n (suc i) s (omega arith))
