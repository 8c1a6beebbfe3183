-- Sixteen bytes compared as one word.
use mathlib.Core.Path.{◌≡◌, refl, sym, ap, ap₂, ◌∙◌}
use mathlib.Core.Bool.{Bool, true, false}
use mathlib.Core.List.{List, [], ◌∷◌}
use Prim.Native.Nat.{ℕ, ◌^◌, ◌<◌}
use native.Mathlib.Omega.{arith}
use lib.Dec.{eqb}
use lib.ListN.{length, get_or}
use borrow.Author.Tests.{eq-eqb, eqb-true}
use Rattle.std.specs.Int.{w128, from_le_bytes}
use Rattle.words.specs.Bytes.{le_bytes, le_number}
use Rattle.words.proofs.Numbers.{bytes_number}
use Rattle.desk.specs.Desks.{same}
use Rattle.desk.proofs.NewNumbers.{same_self, same_eq}

-- the word that sixteen bytes make
number_16 : (b : List ℕ) → length b ≡ 16 → from_le_bytes w128 b ≡ le_number b
unfolding le_number
number_16 (b0 ∷ b1 ∷ b2 ∷ b3 ∷ b4 ∷ b5 ∷ b6 ∷ b7 ∷ b8 ∷ b9 ∷ b10 ∷ b11 ∷ b12 ∷ b13 ∷ b14 ∷ b15 ∷ []) h = omega arith
number_16 _ h = absurd (omega arith)

both_ways : (x y : Bool) → (x ≡ true → y ≡ true) → (y ≡ true → x ≡ true) → x ≡ y
both_ways true y f g = sym (f refl)
both_ways false true f g = g refl
both_ways false false f g = refl

-- as many bytes are the same exactly if their numbers are
abbrev Bytes : List ℕ → Type 0
Bytes bs = (i : ℕ) → i < length bs → get_or bs i 0 < 2 ^ 8

word_same : (xs ys : List ℕ) → length xs ≡ length ys → Bytes xs → Bytes ys → eqb (le_number xs) (le_number ys) ≡ same xs ys
word_same xs ys h bx by' =
    both_ways _ _
    (λ e. let n = eqb-true (le_number xs) (le_number ys) e in
    let q : xs ≡ ys = sym (bytes_number xs bx) ∙ ap₂ le_bytes h n ∙ bytes_number ys by' in
    ap (λ (zs : List ℕ). same zs ys) q ∙ same_self ys)
    (λ e. eq-eqb _ _ (ap le_number (same_eq xs ys e)))

pub same_words : (xs ys : List ℕ) → length xs ≡ 16 → length ys ≡ 16 → Bytes xs → Bytes ys → eqb (from_le_bytes w128 xs) (from_le_bytes w128 ys) ≡ same xs ys
same_words xs ys h k bx by' = ap₂ eqb (number_16 xs h) (number_16 ys k) ∙ word_same xs ys (h ∙ sym k) bx by'
