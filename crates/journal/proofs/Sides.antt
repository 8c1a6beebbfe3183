-- Which side of a test: what holds on both holds.
use mathlib.Core.Path.{◌≡◌, refl}
use mathlib.Core.Bool.{Bool, true, false}
use Prim.Native.Nat.{ℕ, ◌≤◌, ◌<◌}
use borrow.Author.Tests.{ltb-true, ltb-false, eqb-true, eqb-false}
use lib.Dec.{ltb, eqb}

module _ (m n : ℕ) {P : Type 0} where
  pub by_less : (m < n → P) → (n ≤ m → P) → P
  by_less less most = by (ltb m n) refl
    where
      by : (b : Bool) → ltb m n ≡ b → P
      by true e = less (ltb-true m n e)
      by false e = most (ltb-false m n e)

  pub by_same : (m ≡ n → P) → ((m ≡ n → ⊥) → P) → P
  by_same same other = by (eqb m n) refl
    where
      by : (b : Bool) → eqb m n ≡ b → P
      by true e = same (eqb-true m n e)
      by false e = other (eqb-false m n e)
