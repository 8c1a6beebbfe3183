-- A state of sixteen words gives a block of sixteen words, which is 64 bytes.
use Rattle.std.proofs.Common.{◌≡◌, ℕ, zero, suc, ◌*◌, List, length, set, refl, ap, ◌∙◌, length-set}
use Rattle.words.specs.Words.{add}
use Rattle.words.proofs.Numbers.{length-words_bytes}
use Rattle.words.proofs.Sums.{length_zip_with}
use Rattle.chacha.specs.Chacha.{line, quarter_round, inner_block, rounds, chacha_block, serialize}

-- two stores keep the length
stores : (s : List ℕ) (x a z b : ℕ) → length (set (set s x a) z b) ≡ length s
stores s x a z b = length-set (set s x a) z b ∙ length-set s x a

-- a line keeps the length
pub length-line : (k x y z : ℕ) (s : List ℕ) → length (line k x y z s) ≡ length s
unfolding line
length-line k x y z s = stores s x _ z _

-- so does a quarter round
pub length-quarter : (x y z w : ℕ) (s : List ℕ) → length (quarter_round x y z w s) ≡ length s
unfolding quarter_round
length-quarter x y z w s = simp length-line

-- so does an inner block
pub length_inner : (s : List ℕ) → length (inner_block s) ≡ length s
unfolding inner_block
length_inner s = simp length-quarter

-- so do any number of them
pub length-rounds : (n : ℕ) (s : List ℕ) → length (rounds n s) ≡ length s
unfolding rounds
length-rounds zero s = refl
length-rounds (suc n) s = length_inner (rounds n s) ∙ length-rounds n s

-- a block has as many words as its state
pub length_block_same : (s : List ℕ) → length (chacha_block s) ≡ length s
unfolding chacha_block
length_block_same s = length_zip_with add (rounds 10 s) s (length-rounds 10 s)

-- sixteen words
pub length_block : (s : List ℕ) → length s ≡ 16 → length (chacha_block s) ≡ 16
length_block s h = length_block_same s ∙ h

-- 64 bytes
pub length_serialized : (s : List ℕ) → length s ≡ 16 → length (serialize (chacha_block s)) ≡ 64
length_serialized s h = length-words_bytes (chacha_block s) ∙ ap (λ (n : ℕ). 4 * n) (length_block s h)
