-- What tells the input pool from the blocking pool, as data: everything about a pool is stated once over its shape.
use Rattle.std.specs.Prelude.{ℕ, ◌/◌, List, [], ◌∷◌}
use Rattle.ledger.specs.Sizes.{input_words, blocking_words, input_size, blocking_size}

pub record Shape : Type 0 where
  -- words of 32 bits, and the taps
  pub words : ℕ
  pub taps : List ℕ
  -- the size S, in eighths of a bit
  pub size : ℕ

abbrev pub input_shape : Shape
input_shape = record { words = input_words; taps = 104 ∷ 76 ∷ 51 ∷ 25 ∷ 1 ∷ []; size = input_size }

abbrev pub blocking_shape : Shape
blocking_shape = record { words = blocking_words; taps = 26 ∷ 19 ∷ 14 ∷ 7 ∷ 1 ∷ []; size = blocking_size }

-- SHA-1 compressions over a pool: its bytes, 64 at a time, which are 16 words
abbrev pub rounds : Shape → ℕ
rounds sh = sh.words / 16
