-- The range test as the code makes it: numbers that are below a power of two where a difference is in range, gathered by or in one
-- pass over the devices.
use Rattle.std.proofs.Common.{◌≡◌, ℕ, zero, suc, ◌+◌, ◌-◌, ◌^◌, ◌<◌, Bool, true, false, ◌&&◌, ltb, leb, List, [], ◌∷◌, length, get_or, take, drop, ℤ, pos, negsuc, refl, ap, ◌∙◌, add-one, arith, length-drop, take_all, drop-cons, ltb-false, ltb-true, le-ltb, lt-ltb, le-leb, leb-true}
use mathlib.Core.Bool.{and-false, and_assoc, and_comm}
use lib.Bits.{bit_or, or_lt, or_add_and, and_le_l, and_le_r}
use Rattle.ledger.specs.Range.{within, second_in_range, every}

-- a second difference: it is in range where it is by both sums
both_ends : (s t : Bool) → (t ≡ true → s ≡ true) → (s && t) ≡ t
both_ends true t f = refl
both_ends false true f = f refl
both_ends false false f = refl

pub both_sums : (z : ℤ) → (within (2 ^ 32 - 1) (2 ^ 33 - 1 - (2 ^ 32 - 1)) z && within (2 ^ 32) (2 ^ 33 - 1 - 2 ^ 32) z) ≡ second_in_range z
both_sums (pos n) = both_ends (leb n (2 ^ 32)) (leb n (2 ^ 32 - 1)) (λ t. le-leb n (2 ^ 32) (omega (arith, leb-true n (2 ^ 32 - 1) t)))
both_sums (negsuc n) =
    and_comm (ltb n (2 ^ 32 - 1)) (ltb n (2 ^ 32)) ∙ both_ends (ltb n (2 ^ 32)) (ltb n (2 ^ 32 - 1)) (λ t. lt-ltb n (2 ^ 32) (omega (arith, ltb-true n (2 ^ 32 - 1) t)))

-- the or of two is below a power of two where both are
or_by : (k a b : ℕ) (s t : Bool) → ltb a (2 ^ k) ≡ s → ltb b (2 ^ k) ≡ t → ltb (bit_or a b) (2 ^ k) ≡ (s && t)
or_by k a b true true p q = lt-ltb (bit_or a b) (2 ^ k) (or_lt k a b (ltb-true a (2 ^ k) p) (ltb-true b (2 ^ k) q))
or_by k a b true false p q = le-ltb (bit_or a b) (2 ^ k) (omega (arith, ltb-false b (2 ^ k) q, or_add_and a b, and_le_l a b))
or_by k a b false t p q = le-ltb (bit_or a b) (2 ^ k) (omega (arith, ltb-false a (2 ^ k) p, or_add_and a b, and_le_r a b))

pub or_below : (k a b : ℕ) → ltb (bit_or a b) (2 ^ k) ≡ (ltb a (2 ^ k) && ltb b (2 ^ k))
or_below k a b = or_by k a b (ltb a (2 ^ k)) (ltb b (2 ^ k)) refl refl

-- a list in two parts, the second up to the end
split_at : {A : Type 0} (f : A → Bool) (n : ℕ) (xs : List A) → (every f (take n xs) && every f (drop n xs)) ≡ every f xs
split_at f zero xs = refl
split_at f (suc n) [] = refl
split_at f (suc n) (x ∷ xs) = and_assoc (f x) (every f (take n xs)) (every f (drop n xs)) ∙ ap (λ (b : Bool). f x && b) (split_at f n xs)

pub in_parts : {A : Type 0} (f : A → Bool) (n : ℕ) (xs : List A) → (every f (take n xs) && every f (take (length xs - n) (drop n xs))) ≡ every f xs
in_parts f n xs = rw (take_all (length xs - n) (drop n xs) (omega (arith, length-drop n xs))) (split_at f n xs)

-- one timer's two tests, taken over from what is left to what was met
taken : (w a b x y : Bool) → (w && (a && b) && (x && y)) ≡ (w && ((a && x) && (b && y)))
taken true true true x y = refl
taken true true false x y = rw and-false
taken true false b x y = refl
taken false a b x y = refl

-- two lists in one pass, `met` the or of what stands for the places before i: what was met up to i and what is left from there
abbrev pub Whole : {A : Type 0} → ℕ → (A → Bool) → List A → List A → ℕ → ℕ → Bool
Whole k f xs ys i met = ltb met (2 ^ k) && (every f (drop i xs) && every f (drop i ys))

-- place i is met: r and s stand for it
pub one_more : {A : Type 0} (k : ℕ) (f : A → Bool) (xs ys : List A) (i met r s : ℕ) (d : A) → i < length xs → i < length ys
    → ltb r (2 ^ k) ≡ f (get_or xs i d) → ltb s (2 ^ k) ≡ f (get_or ys i d) → Whole k f xs ys (i + 1) (bit_or met (bit_or r s)) ≡ Whole k f xs ys i met
one_more k f xs ys i met r s d h l e e2 = rw (or_below k met (bit_or r s), or_below k r s, e, e2, taken, add-one, drop-cons xs i d, drop-cons ys i d)
