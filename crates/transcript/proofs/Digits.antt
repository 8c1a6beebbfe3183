-- Digits, decimal and hexadecimal, are bytes from 48 on: neither spaces nor newlines.
use mathlib.Core.List.{List, [], ◌∷◌, ◌++◌}
use Prim.Native.Nat.{ℕ, zero, suc, ◌/◌, ◌%◌, ◌≤◌}
use native.Mathlib.Omega.{arith}
use lib.Dec.{ltb}
use Rattle.ledger.proofs.Picks.{pick_both}
use Rattle.transcript.specs.Text.{digits, glyph_of, hex_of}

pub data Digits : List ℕ → Type 0 where
  no_digit : Digits []
  digit : {b : ℕ} {text : List ℕ} → 48 ≤ b → Digits text → Digits (b ∷ text)

behind-digits : (s t : List ℕ) → Digits s → Digits t → Digits (s ++ t)
behind-digits [] t no_digit q = q
behind-digits (b ∷ s) t (digit h p) q = digit h (behind-digits s t p q)

pub decimal-digits : (k n : ℕ) → Digits (digits k n)
unfolding digits
decimal-digits zero n = no_digit
decimal-digits (suc k) n =
    pick_both Digits (ltb n 10) (digit (omega arith) no_digit) (behind-digits _ _ (decimal-digits k (n / 10)) (digit (omega arith) no_digit))

glyph_high : (d : ℕ) → 48 ≤ glyph_of d
unfolding glyph_of
glyph_high d = pick_both (λ (b : ℕ). 48 ≤ b) (ltb d 10) (omega arith) (omega arith)

pub hex_digits : (bytes : List ℕ) → Digits (hex_of bytes)
unfolding hex_of
hex_digits [] = no_digit
hex_digits (b ∷ bytes) = digit (glyph_high (b / 16)) (digit (glyph_high (b % 16)) (hex_digits bytes))
