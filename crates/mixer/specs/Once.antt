-- A spot is inside a pool in one way only: a struct that holds a fact wants it so.
use Rattle.std.specs.Prelude.{ℕ, ◌≡◌, ◌⊎◌, T, eqb}
use Rattle.std.proofs.Common.{sym, ap, subst, ◌∙◌, inl, inr}
use Rattle.std.proofs.Math.Nat.{ℕ_set}
use Rattle.std.proofs.Math.Bridge.{le_prop}
use Rattle.ledger.specs.Sizes.{input_words, blocking_words}
use Rattle.ledger.specs.declared.Spot.{Spot}
use Rattle.mixer.specs.Sizes.{Size, InPool}

-- no number is both word counts
not_both : (n : ℕ) → n ≡ input_words → n ≡ blocking_words → ⊥
not_both n a b = let P : ℕ → Type 0 = λ k. T (eqb k input_words) in subst P (sym a ∙ b) tt

one_of_once : (n : ℕ) (a b : (n ≡ input_words) ⊎ (n ≡ blocking_words)) → a ≡ b
one_of_once n (inl a) (inl b) = ap inl (ℕ_set _ _ a b)
one_of_once n (inl a) (inr b) = absurd (not_both n a b)
one_of_once n (inr a) (inl b) = absurd (not_both n b a)
one_of_once n (inr a) (inr b) = ap inr (ℕ_set _ _ a b)

size_once : (n : ℕ) (a b : Size n) → a ≡ b
size_once n a b =
    λ i. record { few = le_prop a.few b.few i; some = le_prop a.some b.some i; one_of = one_of_once n a.one_of b.one_of i }

pub in_pool_once : (n : ℕ) (s : Spot) (a b : InPool n s) → a ≡ b
in_pool_once n s a b =
    λ i. record { place = le_prop a.place b.place i; turning = le_prop a.turning b.turning i; size = size_once n a.size b.size i }
