-- The twist of a xor is the xor of the twists: a shift is, and the table is, entry by entry.
use mathlib.Core.Path.{◌≡◌, refl, sym, ap, ◌∙◌}
use Prim.Native.Nat.{ℕ, zero, suc, ◌+◌, ◌/◌, ◌%◌, ◌^◌, ◌≤◌, ◌<◌}
use native.Mathlib.Omega.{arith}
use lib.Bits.{bit_xor, xor_zero_l, xor_comm, xor_shr, xor_mod}
use lib.ListN.{get_or}
use Rattle.pool.specs.Mixing.{twist_table, twisted}

-- ---- xor is associative: of numbers below 2, of halves, of any
bits_assoc : (a b c : ℕ) → a < 2 → b < 2 → c < 2 → bit_xor (bit_xor a b) c ≡ bit_xor a (bit_xor b c)
bits_assoc zero b c h k l = rw (xor_zero_l b, xor_zero_l (bit_xor b c))
bits_assoc (suc zero) zero c h k l = rw (xor_zero_l c)
bits_assoc (suc zero) (suc zero) zero h k l = refl
bits_assoc (suc zero) (suc zero) (suc zero) h k l = refl
bits_assoc (suc zero) (suc zero) (suc (suc c)) h k l = let z : ⊥ = omega arith in absurd z
bits_assoc (suc zero) (suc (suc b)) c h k l = let z : ⊥ = omega arith in absurd z
bits_assoc (suc (suc a)) b c h k l = let z : ⊥ = omega arith in absurd z

halves : (x y : ℕ) → x / 2 ≡ y / 2 → x % 2 ≡ y % 2 → x ≡ y
halves x y h k = omega arith

assoc_to : (n a b c : ℕ) → a ≤ n → b ≤ n → c ≤ n → bit_xor (bit_xor a b) c ≡ bit_xor a (bit_xor b c)
assoc_to zero a b c h k l = bits_assoc a b c (omega arith) (omega arith) (omega arith)
assoc_to (suc n) a b c h k l =
    halves (bit_xor (bit_xor a b) c) (bit_xor a (bit_xor b c))
    (rw (xor_shr (bit_xor a b) c 1, xor_shr a b 1, xor_shr a (bit_xor b c) 1, xor_shr b c 1) (assoc_to n (a / 2) (b / 2) (c / 2) (omega arith) (omega arith) (omega arith)))
    (rw (xor_mod (bit_xor a b) c 1, xor_mod a b 1, xor_mod a (bit_xor b c) 1, xor_mod b c 1) (bits_assoc (a % 2) (b % 2) (c % 2) (omega arith) (omega arith) (omega arith)))

pub xor_assoc : (a b c : ℕ) → bit_xor (bit_xor a b) c ≡ bit_xor a (bit_xor b c)
xor_assoc a b c = assoc_to (a + b + c) a b c (omega arith) (omega arith) (omega arith)

xor_four : (a b c d : ℕ) → bit_xor (bit_xor a b) (bit_xor c d) ≡ bit_xor (bit_xor a c) (bit_xor b d)
xor_four a b c d =
    xor_assoc a b (bit_xor c d)
    ∙ ap (bit_xor a) (sym (xor_assoc b c d) ∙ ap (λ (x : ℕ). bit_xor x d) (xor_comm b c) ∙ xor_assoc c b d)
    ∙ sym (xor_assoc a c (bit_xor b d))

-- what holds of each number below 8
eight : (P : ℕ → Type 0) → P 0 → P 1 → P 2 → P 3 → P 4 → P 5 → P 6 → P 7 → (n : ℕ) → n < 8 → P n
eight P a b c d e f g h zero l = a
eight P a b c d e f g h (suc zero) l = b
eight P a b c d e f g h (suc (suc zero)) l = c
eight P a b c d e f g h (suc (suc (suc zero))) l = d
eight P a b c d e f g h (suc (suc (suc (suc zero)))) l = e
eight P a b c d e f g h (suc (suc (suc (suc (suc zero))))) l = f
eight P a b c d e f g h (suc (suc (suc (suc (suc (suc zero)))))) l = g
eight P a b c d e f g h (suc (suc (suc (suc (suc (suc (suc zero))))))) l = h
eight P a b c d e f g h (suc (suc (suc (suc (suc (suc (suc (suc n)))))))) l = let z : ⊥ = omega arith in absurd z

-- the table, entry by entry
abbrev Row : ℕ → ℕ → Type 0
Row p q = get_or twist_table (bit_xor p q) 0 ≡ bit_xor (get_or twist_table p 0) (get_or twist_table q 0)

table-xor : (p : ℕ) → p < 8 → (q : ℕ) → q < 8 → Row p q
table-xor =
    eight (λ p. (q : ℕ) → q < 8 → Row p q)
    (eight (Row 0) refl refl refl refl refl refl refl refl)
    (eight (Row 1) refl refl refl refl refl refl refl refl)
    (eight (Row 2) refl refl refl refl refl refl refl refl)
    (eight (Row 3) refl refl refl refl refl refl refl refl)
    (eight (Row 4) refl refl refl refl refl refl refl refl)
    (eight (Row 5) refl refl refl refl refl refl refl refl)
    (eight (Row 6) refl refl refl refl refl refl refl refl)
    (eight (Row 7) refl refl refl refl refl refl refl refl)

pub twist_xor : (a b : ℕ) → bit_xor (twisted a) (twisted b) ≡ twisted (bit_xor a b)
unfolding twisted
twist_xor a b =
    rw (xor_shr a b 3, xor_mod a b 3, table-xor (a % 8) (omega arith) (b % 8) (omega arith))
    (xor_four (a / 2 ^ 3) (get_or twist_table (a % 8) 0) (b / 2 ^ 3) (get_or twist_table (b % 8) 0))
