-- Laws of the rotation and of the sum.
use Rattle.std.proofs.Common.{◌≡◌, ℕ, zero, suc, ◌-◌, ◌*◌, ◌/◌, ◌%◌, ◌^◌, ◌<◌, sym, ◌∙◌, lt_of_le_of_lt, arith}
use lib.Bits.{bit_or, or_self, or_zero_r, or_lt}
use lib.Pow.{shr_le}
use Rattle.words.specs.Words.{add, rotl}

-- a rotation by 0 places changes nothing
pub rotl_0 : (x : ℕ) → x < 2 ^ 32 → rotl 0 x ≡ x
unfolding rotl
rotl_0 x h =
    let a : x * 1 % 2 ^ 32 ≡ x = omega arith in
    let b : x / 2 ^ 32 ≡ 0 = omega arith in
    rw (a, b) (or_zero_r x)

-- the code's form, whose second shift is 0 and not 32 where the first is 0
pub by_shifts : (x n : ℕ) → x < 2 ^ 32 → n < 32 → bit_or (x * 2 ^ n % 2 ^ 32) (x / 2 ^ ((32 - n) % 32)) ≡ rotl n x
unfolding rotl
by_shifts x zero h k =
    let a : x * 1 % 2 ^ 32 ≡ x = omega arith in
    let b : x / 2 ^ 32 ≡ 0 = omega arith in
    let d : x / 1 ≡ x = omega arith in
    rw (a, b, d) (or_self x ∙ sym (or_zero_r x))
by_shifts x (suc n) h k =
    let e : (32 - suc n) % 32 ≡ 32 - suc n = omega arith in
    rw e

-- a rotated word is a word
pub rotl_lt : (k x : ℕ) → x < 2 ^ 32 → rotl k x < 2 ^ 32
unfolding rotl
rotl_lt k x h =
    or_lt 32 (x * 2 ^ k % 2 ^ 32) (x / 2 ^ (32 - k)) (omega arith) (lt_of_le_of_lt (shr_le x (32 - k)) h)

-- a sum of words is a word
pub add_lt : (a b : ℕ) → add a b < 2 ^ 32
add_lt a b = omega arith
