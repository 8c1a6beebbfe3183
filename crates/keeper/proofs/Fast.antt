-- The fast pool stays four words, and what a call brings out of it or of a device event is 16 bytes.
use mathlib.Core.Path.{◌≡◌, refl, ap, ◌∙◌}
use mathlib.Core.List.{List}
use Prim.Native.Nat.{ℕ, ◌*◌}
use native.Mathlib.Omega.{arith}
use lib.ListN.{length, length-append}
use Rattle.words.specs.Bytes.{words_bytes}
use Rattle.words.proofs.Numbers.{length_le_bytes, length-words_bytes}
use Rattle.keeper.specs.FastPool.{stirred}
use Rattle.keeper.specs.Calls.{event_bytes}

-- four words, whatever was there
pub stirred-length : (now number stamp address : ℕ) (f : List ℕ) → length (stirred now number stamp address f) ≡ 4
unfolding stirred
stirred-length now number stamp address f = refl

-- a fast pool of four words is 16 bytes
pub fast_bytes : (f : List ℕ) → length f ≡ 4 → length (words_bytes f) ≡ 16
fast_bytes f h = length-words_bytes f ∙ ap (λ (n : ℕ). 4 * n) h

-- so is a stirred one
pub stirred-bytes : (now number stamp address : ℕ) (f : List ℕ) → length (words_bytes (stirred now number stamp address f)) ≡ 16
stirred-bytes now number stamp address f =
    fast_bytes (stirred now number stamp address f) (stirred-length now number stamp address f)

-- a device event: stamp, now and value
pub event-bytes : (stamp now value : ℕ) → length (event_bytes stamp now value) ≡ 16
event-bytes stamp now value =
    simp length-append (omega (arith, length_le_bytes 8 stamp, length_le_bytes 4 now, length_le_bytes 4 value))
