-- Two lists of words joined word by word, one place at a time, as a loop over the places does it; for any operation and any
-- length.
use Rattle.std.proofs.Common.{◌≡◌, ℕ, zero, suc, ◌<◌, List, [], ◌∷◌, length, get_or, set, refl, ap, arith}
use mathlib.Core.List.{zip_with}

module _ (f : ℕ → ℕ → ℕ) where
  -- the first i places joined by f, the others as they are in xs
  unfoldable pub part : ℕ → List ℕ → List ℕ → List ℕ
  part zero xs ys = xs
  part (suc i) (x ∷ xs) (y ∷ ys) = f x y ∷ part i xs ys
  part (suc i) [] ys = []
  part (suc i) (x ∷ xs) [] = x ∷ xs

  -- one more place
  pub part_suc : (i : ℕ) (xs ys : List ℕ) → i < length xs → i < length ys
      → set (part i xs ys) i (f (get_or (part i xs ys) i 0) (get_or ys i 0)) ≡ part (suc i) xs ys
  unfolding part
  part_suc zero (x ∷ xs) (y ∷ ys) h k = refl
  part_suc (suc i) (x ∷ xs) (y ∷ ys) h k = ap (λ (l : List ℕ). f x y ∷ l) (part_suc i xs ys (omega arith) (omega arith))
  part_suc i [] ys h k = absurd (omega arith)
  part_suc i (x ∷ xs) [] h k = absurd (omega arith)

  -- every place: the lists joined
  pub part_all : (xs ys : List ℕ) → length xs ≡ length ys → part (length xs) xs ys ≡ zip_with f xs ys
  unfolding zip_with part
  part_all [] ys e = refl
  part_all (x ∷ xs) (y ∷ ys) e = ap (λ (l : List ℕ). f x y ∷ l) (part_all xs ys (omega arith))
  part_all (x ∷ xs) [] e = absurd (omega arith)

  -- lists of one length, joined, have that length
  pub length_zip_with : (xs ys : List ℕ) → length xs ≡ length ys → length (zip_with f xs ys) ≡ length ys
  unfolding zip_with
  length_zip_with [] ys e = e
  length_zip_with (x ∷ xs) (y ∷ ys) e = ap suc (length_zip_with xs ys (omega arith))
  length_zip_with (x ∷ xs) [] e = absurd (omega arith)

  -- a place of two lists, joined
  pub get_or_zip_with : (i : ℕ) (xs ys : List ℕ) → i < length xs → i < length ys → get_or (zip_with f xs ys) i 0 ≡ f (get_or xs i 0) (get_or ys i 0)
  unfolding zip_with
  get_or_zip_with zero (x ∷ xs) (y ∷ ys) h k = refl
  get_or_zip_with (suc i) (x ∷ xs) (y ∷ ys) h k = get_or_zip_with i xs ys (omega arith) (omega arith)
  get_or_zip_with i [] ys h k = absurd (omega arith)
  get_or_zip_with i (x ∷ xs) [] h k = absurd (omega arith)
