-- Pieces added to a text, one behind another.
use mathlib.Core.Path.{◌≡◌, refl, ap, sym, ◌∙◌}
use mathlib.Core.List.{List, [], ◌∷◌, ◌++◌, append_assoc}
use Prim.Native.Nat.{ℕ, zero, suc, ◌+◌, ◌-◌, ◌*◌, ◌/◌, ◌%◌, ◌^◌, ◌≤◌, ◌<◌}
use native.Mathlib.Omega.{arith}
use native.Mathlib.Nat.{pow-suc}
use borrow.Rule.Slice.PartMut.{put_mid}
use lib.ListN.{length, take, get_or, length-append}
use lib.Seq.{sets, sets-eq, take-suc}
use Rattle.std.proofs.lemmas.List.{drop-drop}
use Rattle.std.proofs.lemmas.Fmt.{decimal_by_steps}
use Rattle.std.specs.Fmt.{decimal}
use Rattle.transcript.specs.Text.{Put, digits, glyph_of, hex_of}
use Rattle.transcript.specs.Lines.{text_in}
use Rattle.transcript.specs.Writing.{Adds, HasRoom}
use Rattle.transcript.specs.declared.text.Text.{Text}
use Rattle.transcript.proofs.Laws.{then, none, digits_last, digits_more, fits}

pub adds_none : (t : Text) → Adds t t []
adds_none t = record { put = none _ _; same_length = refl; same_reference = refl }

pub adds_then : {a b c : Text} {s t : List ℕ} → Adds a b s → Adds b c t → Adds a c (s ++ t)
adds_then p q = record {
  put = then _ _ _ _ _ _ _ _ p.put q.put;
  same_length = q.same_length ∙ p.same_length;
  same_reference = q.same_reference ∙ p.same_reference;
}

-- the same piece, said in another way
pub adds_as : {a b : Text} {s t : List ℕ} → s ≡ t → Adds a b s → Adds a b t
adds_as e p = rw (← e) p

-- letters copied as they are
pub copied : (room letters new : List ℕ) (at : ℕ) → at + length letters ≤ length room → new ≡ letters
    → put_mid at (at + length letters - at) room new ≡ sets room at letters
copied room letters new at h e =
    let k : at + length letters - at ≡ length letters = omega arith in
    rw (e, k, drop-drop (length letters) at room, sets-eq letters room at h, append_assoc)

-- a number in decimal has k digits at most, where it is below 10^k
fewer : (k n : ℕ) → n < 10 ^ k → 10 ≤ n → (n / 10 < 10 ^ (k - 1)) × (0 < k - 1)
fewer zero n h m = absurd (omega arith)
fewer (suc zero) n h m = absurd (omega arith)
fewer (suc (suc k)) n h m =
    let e : suc (suc k) - 1 ≡ suc k = omega arith in
    let p : n < 10 ^ suc k * 10 = rw pow-suc at h in
    rw e (omega arith, omega arith)

pub decimal_is : (k n : ℕ) → 0 < k → n < 10 ^ k → n < 2 ^ 64 → decimal n ≡ digits k n
decimal_is k n p h m =
    decimal_by_steps (λ (n : ℕ) (s : List ℕ). (k : ℕ) → 0 < k → n < 10 ^ k → s ≡ digits k n)
    (λ n small k p h. sym (digits_last k n p small))
    (λ n s large rest k p h. let f = fewer k n h large in rw (rest (k - 1) f.1 f.0) (sym (digits_more k n p large)))
    n m k p h

-- two digits for a byte
hex_of_append : (s t : List ℕ) → hex_of (s ++ t) ≡ hex_of s ++ hex_of t
unfolding hex_of
hex_of_append [] t = refl
hex_of_append (b ∷ s) t = rw (hex_of_append s t)

pub hex_more : (bytes : List ℕ) (i : ℕ) → i < length bytes
    → hex_of (take (i + 1) bytes) ≡ hex_of (take i bytes) ++ ((glyph_of (get_or bytes i 0 / 16) ∷ []) ++ (glyph_of (get_or bytes i 0 % 16) ∷ []))
unfolding hex_of
hex_more bytes i h = let e : i + 1 ≡ suc i = omega arith in rw (e, take-suc bytes i 0 h) (hex_of_append (take i bytes) (get_or bytes i 0 ∷ []))

-- a text that was begun in a room stands at the room's start. What is left of the room and the count of its bytes are those that a function answers
module _ {a b : Text} {s : List ℕ} (p : Adds a b s) (room : List ℕ) (is_room : a.room.now ≡ room) (is_start : a.at ≡ 0) (n : ℕ) (left : List ℕ) (is_len : n ≡ b.at) (is_left : left ≡ b.room.now) where
  pub put_whole : Put room left 0 s n
  put_whole = rw (is_len, is_left) (rw (is_room, is_start) at p.put)

  -- .. and is what the room is to hold, where it has bytes enough for the longest text of its kind
  pub whole : (most : ℕ) → most ≤ length room → length s ≤ most → (record { count = n; room = left }) ≡ text_in most room s
  whole most h k = fits most room left s n h k put_whole
