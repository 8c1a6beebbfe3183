-- A word read as a class, two letters at a time: what is left gives the whole.
use mathlib.Core.Path.{◌≡◌, refl, sym, ap, ap₂, ◌∙◌, subst}
use mathlib.Core.Bool.{Bool, true, false, ◌&&◌, false≢true}
use mathlib.Core.List.{List, [], ◌∷◌}
use Prim.Native.Nat.{ℕ, suc, ◌+◌, ◌-◌, ◌*◌, ◌/◌, ◌%◌, ◌≤◌, ◌<◌}
use native.Mathlib.Omega.{arith}
use borrow.Author.Tests.{le-leb, lt-leb, lt-ltb, le-ltb, ltb-true}
use Rattle.std.specs.List.{list_all}
use lib.ListN.{length, get_or, set, drop, drop_of_length-le}
use lib.Seq.{sets, drop-cons}
use Rattle.ledger.specs.Choice.{pick}
use Rattle.ledger.proofs.Picks.{and_left, and_right}
use Rattle.journal.proofs.Sides.{by_less}
use Rattle.transcript.specs.Text.{Put, glyph_of, hex_of}
use Rattle.desk.specs.Sizes.{drill, live}
use Rattle.desk.specs.Desks.{same}
use Rattle.desk.proofs.NewNumbers.{same_eq}
use Rattle.lab.specs.Classes.{hex_value, is_digit, is_hex, bytes_of, Said, no_class, class_field, drill_word, live_word, field_of, Class, Gives}
use Rattle.lab.proofs.Digits.{two_left}

-- ---- a digit
module _ (b : ℕ) where
  pub decimal_digit : 48 ≤ b → b ≤ 57 → b - 48 ≡ hex_value b
  unfolding hex_value pick
  decimal_digit h l = rw (le-leb 48 b h, le-leb b 57 l) refl

  pub upper_digit : 65 ≤ b → b ≤ 70 → b - 65 + 10 ≡ hex_value b
  unfolding hex_value pick
  upper_digit h l = rw (le-leb 48 b (omega arith), lt-leb b 57 (omega arith), le-leb 65 b h, le-leb b 70 l) refl

  pub lower_digit : 97 ≤ b → b ≤ 102 → b - 97 + 10 ≡ hex_value b
  unfolding hex_value pick
  lower_digit h l =
      rw (le-leb 48 b (omega arith), lt-leb b 57 (omega arith), le-leb 65 b (omega arith), lt-leb b 70 (omega arith), le-leb 97 b h, le-leb b 102 l) refl

  pub below_digits : b < 48 → 16 ≡ hex_value b
  unfolding hex_value pick
  below_digits h = rw (lt-leb 48 b h, lt-leb 65 b (omega arith), lt-leb 97 b (omega arith)) refl

  pub above_decimal : 57 < b → b < 65 → 16 ≡ hex_value b
  unfolding hex_value pick
  above_decimal h l = rw (le-leb 48 b (omega arith), lt-leb b 57 h, lt-leb 65 b l, lt-leb 97 b (omega arith)) refl

  pub above_upper : 70 < b → b < 97 → 16 ≡ hex_value b
  unfolding hex_value pick
  above_upper h l =
      rw (le-leb 48 b (omega arith), lt-leb b 57 (omega arith), le-leb 65 b (omega arith), lt-leb b 70 h, lt-leb 97 b l) refl

  pub above_lower : 102 < b → 16 ≡ hex_value b
  unfolding hex_value pick
  above_lower h =
      rw (le-leb 48 b (omega arith), lt-leb b 57 (omega arith), le-leb 65 b (omega arith), lt-leb b 70 (omega arith), le-leb 97 b (omega arith), lt-leb b 102 h) refl

-- ---- the letters from a place on
and-false : (a : Bool) → (a && false) ≡ false
and-false true = refl
and-false false = refl

module _ (w : List ℕ) (i : ℕ) where
  pub odd : length w - i ≡ 1 → is_hex (drop i w) ≡ false
  unfolding is_hex
  odd h =
      let l : i < length w = omega (arith, h) in
      let k : length w ≤ suc i = omega (arith, h) in
      rw (drop-cons w i 0 l, drop_of_length-le w k) refl

  module _ (h : suc i < length w) where
    -- where all are digits
    module _ (e : is_hex (drop i w) ≡ true) where
      here : ((is_digit (get_or w i 0) && is_digit (get_or w (suc i) 0)) && is_hex (drop (suc (suc i)) w)) ≡ true
      unfolding is_hex
      here = rw (two_left w i h) at e

      pub first-digit : hex_value (get_or w i 0) < 16
      first-digit = ltb-true _ _ (and_left _ _ (and_left _ _ here))

      pub second_digit : hex_value (get_or w (suc i) 0) < 16
      second_digit = ltb-true _ _ (and_right (is_digit (get_or w i 0)) _ (and_left _ _ here))

      pub others : is_hex (drop (suc (suc i)) w) ≡ true
      others = and_right (is_digit (get_or w i 0) && is_digit (get_or w (suc i) 0)) _ here

    pub bytes_here : bytes_of (drop i w) ≡ (hex_value (get_or w i 0) * 16 + hex_value (get_or w (suc i) 0)) ∷ bytes_of (drop (suc (suc i)) w)
    unfolding bytes_of
    bytes_here = rw (two_left w i h) refl

  -- a digit is not the last letter
  pub two : i < length w → is_hex (drop i w) ≡ true → suc i < length w
  two h e = by_less (suc i) (length w) (λ l. l) (λ l. absurd (false≢true (sym (odd (omega (arith, h, l))) ∙ e)))

-- the letters of a word are digits, and as many as two for each byte
and_regroup : (a b c : Bool) → (a && (b && c)) ≡ ((a && b) && c)
and_regroup true b c = refl
and_regroup false b c = refl

pub even_word : (w : List ℕ) → length w % 2 ≡ 0 → list_all is_digit w ≡ is_hex w
unfolding is_hex
even_word [] e = refl
even_word (h ∷ []) e = absurd (omega (arith, e))
even_word (h ∷ l ∷ w) e = rw (even_word w (omega (arith, e))) (and_regroup (is_digit h) (is_digit l) (is_hex w))

pub odd_word : (w : List ℕ) → (length w % 2 ≡ 0 → ⊥) → false ≡ is_hex w
unfolding is_hex
odd_word [] e = absurd (e refl)
odd_word (h ∷ []) e = refl
odd_word (h ∷ l ∷ w) e = rw (← odd_word w (λ z. e (omega (arith, z)))) (sym (and-false (is_digit h && is_digit l)))

pub two_each : (w : List ℕ) → is_hex w ≡ true → 2 * length (bytes_of w) ≡ length w
unfolding is_hex bytes_of
two_each [] e = refl
two_each (h ∷ []) e = absurd (false≢true e)
two_each (h ∷ l ∷ w) e = let r = two_each w (and_right (is_digit h && is_digit l) _ e) in omega (arith, r)

-- ---- bytes laid one by one
module _ (room w : List ℕ) (i at : ℕ) (all : List ℕ) where
  pub one_byte : (b : ℕ) → suc i < length w → b ≡ hex_value (get_or w i 0) * 16 + hex_value (get_or w (suc i) 0) → sets room at (bytes_of (drop i w)) ≡ all
      → sets (set room at b) (suc at) (bytes_of (drop (suc (suc i)) w)) ≡ all
  one_byte b h e s = rw e (rw (bytes_here w i h) at s)

  pub no_byte : length w ≤ i → sets room at (bytes_of (drop i w)) ≡ all → room ≡ all
  unfolding bytes_of
  no_byte h s = rw (drop_of_length-le w h) at s

-- ---- the whole word
not_same : (xs ys : List ℕ) → (xs ≡ ys → ⊥) → same xs ys ≡ false
not_same xs ys h = by (same xs ys) refl
  where
    by : (t : Bool) → same xs ys ≡ t → t ≡ false
    by true e = absurd (h (same_eq xs ys e))
    by false e = refl

says_drill : class_field (drill ∷ []) ≡ field_of drill_word
unfolding field_of same pick
says_drill = refl

says_live : class_field (live ∷ []) ≡ field_of live_word
unfolding field_of same pick
says_live = refl

module _ (w : List ℕ) (r : Class) (room room' : List ℕ) where
  to : (s : Said) → s ≡ field_of w → Gives s r room room' → Gives (field_of w) r room room'
  to s e g = subst (λ (x : Said). Gives x r room room') e g

  pub gives_drill : w ≡ drill_word → Gives (class_field (drill ∷ [])) r room room' → Gives (field_of w) r room room'
  gives_drill e g = to _ (says_drill ∙ sym (ap field_of e)) g

  pub gives_live : w ≡ live_word → Gives (class_field (live ∷ [])) r room room' → Gives (field_of w) r room room'
  gives_live e g = to _ (says_live ∙ sym (ap field_of e)) g

not_in_hex : (is_hex drill_word ≡ false) × (is_hex live_word ≡ false)
unfolding is_hex hex_value pick
not_in_hex = (refl, refl)

-- so a word in hexadecimal is neither
pub hex_not_drill : (w : List ℕ) → is_hex w ≡ true → w ≡ drill_word → ⊥
hex_not_drill w h e = false≢true (sym not_in_hex.0 ∙ sym (ap is_hex e) ∙ h)

pub hex_not_live : (w : List ℕ) → is_hex w ≡ true → w ≡ live_word → ⊥
hex_not_live w h e = false≢true (sym not_in_hex.1 ∙ sym (ap is_hex e) ∙ h)

module _ (w : List ℕ) (d : w ≡ drill_word → ⊥) (l : w ≡ live_word → ⊥) where
  says_none : is_hex w ≡ false → no_class ≡ field_of w
  unfolding field_of pick
  says_none e = rw (not_same w drill_word d, not_same w live_word l, e) refl

  says_bytes : is_hex w ≡ true → class_field (bytes_of w) ≡ field_of w
  unfolding field_of pick
  says_bytes e = rw (not_same w drill_word d, not_same w live_word l, e) refl

  pub gives_none : (room : List ℕ) → is_hex w ≡ false → Gives (field_of w) (record { good = false; len = 0 }) room room
  gives_none room e = to w _ room room _ (says_none e) (refl, refl)

  pub gives_bytes : (room room' : List ℕ) (len : ℕ) → is_hex w ≡ true → Put room room' 0 (bytes_of w) len → Gives (field_of w) (record { good = true; len = len }) room room'
  gives_bytes room room' len e p = to w _ room room' _ (says_bytes e) (refl, p)

-- ---- WHAT IS WRITTEN in hexadecimal is read back: every class field can be asked for
glyph_by : (d : ℕ) → d < 16 → hex_value (glyph_of d) ≡ d
unfolding glyph_of hex_value pick
glyph_by d h =
    by_less d 10
    (λ l. rw (lt-ltb d 10 l, le-leb 48 (48 + d) (omega arith), le-leb (48 + d) 57 (omega (arith, l))) (omega arith))
    (λ l. rw (le-ltb d 10 l, le-leb 48 (87 + d) (omega arith), lt-leb (87 + d) 57 (omega (arith, l)), le-leb 65 (87 + d) (omega arith), lt-leb (87 + d) 70 (omega (arith, l)), le-leb 97 (87 + d) (omega (arith, l)), le-leb (87 + d) 102 (omega (arith, h))) (omega (arith, l)))

module _ (b : ℕ) (h : b < 256) where
  high : hex_value (glyph_of (b / 16)) ≡ b / 16
  high = glyph_by (b / 16) (omega (arith, h))

  low : hex_value (glyph_of (b % 16)) ≡ b % 16
  low = glyph_by (b % 16) (omega arith)

  both_digits : (is_digit (glyph_of (b / 16)) && is_digit (glyph_of (b % 16))) ≡ true
  both_digits = rw (high, low, lt-ltb (b / 16) 16 (omega (arith, h)), lt-ltb (b % 16) 16 (omega arith)) refl

  the_byte : hex_value (glyph_of (b / 16)) * 16 + hex_value (glyph_of (b % 16)) ≡ b
  the_byte = rw (high, low) (omega arith)

read_back : (bytes : List ℕ) → ((i : ℕ) → get_or bytes i 0 < 256) → (is_hex (hex_of bytes) ≡ true) × (bytes_of (hex_of bytes) ≡ bytes)
unfolding hex_of is_hex bytes_of
read_back [] h = (refl, refl)
read_back (b ∷ bs) h =
    let r = read_back bs (λ i. h (suc i)) in
    (rw (both_digits b (h 0)) r.0, ap₂ ◌∷◌ (the_byte b (h 0)) r.1)

pub asked_for : (bytes : List ℕ) → ((i : ℕ) → get_or bytes i 0 < 256) → field_of (hex_of bytes) ≡ class_field bytes
asked_for bytes h =
    let r = read_back bytes h in
    sym
    (says_bytes (hex_of bytes) (hex_not_drill _ r.0) (hex_not_live _ r.0) r.0)
    ∙ ap class_field r.1
