-- The bytes that go into a pool, written out as the code lays them.
use mathlib.Core.Path.{◌≡◌, refl, sym, ap}
use mathlib.Core.List.{List, [], ◌∷◌, ◌++◌, append_assoc, append-nil}
use Prim.Native.Nat.{ℕ, zero, suc, ◌*◌, ◌/◌, ◌%◌, ◌^◌, ◌<◌}
use native.Mathlib.Omega.{arith}
use lib.Arith.{digits_div, digits_mod, mod-mul}
use lib.Pow.{pow_pos}
use Rattle.words.specs.Bytes.{le_bytes, words_bytes, bytes_words}
use Rattle.ledger.specs.Shapes.{Shape}
use Rattle.pool.specs.Mixing.{Pool}
use Rattle.pool.specs.Extracting.{Extract, extract}
use Rattle.pool.proofs.Extracted.{laws}
use Rattle.keeper.specs.Generator.{xor_at, onto_key}
use Rattle.keeper.specs.Calls.{event_bytes}

-- the low bytes of a number are those of its remainder
abbrev span : ℕ → ℕ
span zero = 1
span (suc n) = span n * 2 ^ 8

span_pos : (n : ℕ) → 0 < span n
span_pos zero = omega arith
span_pos (suc n) = omega (arith, span_pos n)

low_bytes : (n x : ℕ) → le_bytes n (x % span n) ≡ le_bytes n x
unfolding le_bytes
low_bytes zero x = refl
low_bytes (suc n) x =
    let r : x % 2 ^ 8 < 2 ^ 8 = omega arith in
    rw (mod-mul x (span_pos n) (pow_pos 8), digits_mod (x / 2 ^ 8 % span n) r, digits_div (x / 2 ^ 8 % span n) r)
    (ap (λ (t : List ℕ). x % 2 ^ 8 ∷ t) (low_bytes n (x / 2 ^ 8)))

-- eight bytes are those of two halves
halves : (x : ℕ) → le_bytes 4 x ++ le_bytes 4 (x / 2 ^ 32) ≡ le_bytes 8 x
unfolding le_bytes
halves x =
    let e : x / 2 ^ 32 ≡ x / 2 ^ 8 / 2 ^ 8 / 2 ^ 8 / 2 ^ 8 = omega arith in
    rw e

-- an event's bytes are those of four words
pub event-words : (stamp now value : ℕ) → words_bytes (stamp % 2 ^ 32 ∷ stamp / 2 ^ 32 ∷ now ∷ value ∷ []) ≡ event_bytes stamp now value
unfolding words_bytes
event-words stamp now value =
    rw (low_bytes 4 stamp, append-nil (le_bytes 4 value), ← append_assoc (le_bytes 4 stamp) (le_bytes 4 (stamp / 2 ^ 32)) (le_bytes 4 now ++ le_bytes 4 value), halves stamp)

-- ---- a reseed that takes nothing
pub none_out : (sh : Shape) (t : ℕ) (q : Pool) → t ≡ 0 → ◌≡◌ {A = Extract} (record { bytes = []; pool = q; runs = 0 }) (extract sh t q)
none_out sh t q e = rw e (sym ((laws sh).take_none q))

pub onto_none : (bs g : List ℕ) → bs ≡ [] → g ≡ onto_key bs g
unfolding xor_at bytes_words
onto_none bs g e = rw e refl
