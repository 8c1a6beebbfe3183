-- A table by its elements, and a list with one element more.
use mathlib.Core.Path.{◌≡◌, refl, sym, ◌∙◌}
use mathlib.Core.List.{List, [], ◌∷◌, ◌++◌}
use Prim.Native.Nat.{ℕ, zero, suc, ◌≤◌, ◌<◌}
use native.Mathlib.Omega.{arith}
use lib.ListN.{length, get_or, length-append, get_or-append, get_or-eq_default}
use lib.Seq.{get_or-append_seam}
use Rattle.journal.proofs.Sides.{by_less}
use Rattle.index.specs.Summary.{table}

pub length-table : (n : ℕ) (f : ℕ → ℕ) → length (table n f) ≡ n
unfolding table
length-table zero f = refl
length-table (suc n) f = rw (length-table n (λ i. f (suc i)))

pub get_or-table : (n : ℕ) (f : ℕ → ℕ) (i : ℕ) → i < n → get_or (table n f) i 0 ≡ f i
unfolding table
get_or-table zero f i h = absurd (omega (arith, h))
get_or-table (suc n) f zero h = refl
get_or-table (suc n) f (suc i) h = get_or-table n (λ k. f (suc k)) i (omega (arith, h))

-- the last, and all others
pub get_or_last : (l : List ℕ) (a m : ℕ) → m ≡ length l → get_or (l ++ (a ∷ [])) m 0 ≡ a
get_or_last l a m e = rw e (get_or-append_seam l a [] 0)

pub get_or_not_last : (l : List ℕ) (a m : ℕ) → (m ≡ length l → ⊥) → get_or (l ++ (a ∷ [])) m 0 ≡ get_or l m 0
get_or_not_last l a m n =
    by_less m (length l)
    (λ h. get_or-append l (a ∷ []) 0 m h)
    (λ h. let k : length l < m = strict (length l) m h (λ e. n (sym e)) in
    let s = length-append l (a ∷ []) in
    get_or-eq_default (l ++ (a ∷ [])) 0 (omega (arith, s, k)) ∙ sym (get_or-eq_default l 0 h))
  where
    strict : (x y : ℕ) → x ≤ y → (x ≡ y → ⊥) → x < y
    strict x y h ne = by_less x y (λ l. l) (λ l. absurd (ne (omega (arith, h, l))))
