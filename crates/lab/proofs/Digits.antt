-- A word read digit by digit: what is left gives the whole; and what is read is the number that the digits make, as far as a record number goes.
use mathlib.Core.Path.{◌≡◌, refl, sym, ap, ◌∙◌}
use mathlib.Core.Bool.{Bool, true, false}
use mathlib.Core.List.{List, [], ◌∷◌}
use Rattle.std.specs.Prelude.{Option, Some, None, min, take_while, eqb, leb}
use Rattle.std.proofs.lemmas.Option.{none-some, same_Some}
use Rattle.std.proofs.lemmas.List.Sums.{take_while-cons}
use Prim.Native.Nat.{ℕ, suc, ◌+◌, ◌-◌, ◌*◌, ◌≤◌, ◌<◌}
use native.Mathlib.Omega.{arith}
use borrow.Author.Tests.{leb-true, le-leb, lt-leb, lt-ltb, le-ltb}
use lib.ListN.{length, get_or, drop, drop_of_length-le}
use lib.Seq.{drop-cons}
use Rattle.ledger.specs.Choice.{pick}
use Rattle.ledger.proofs.Picks.{and_left, and_right}
use Rattle.journal.proofs.Sides.{by_less}
use Rattle.lab.specs.Numbers.{digit, all_digits, is_number, decimal, onward, zeros_before}

pub is_digit : (b : ℕ) → 48 ≤ b → b ≤ 57 → digit b ≡ true
unfolding digit
is_digit b h l = rw (le-leb 48 b h, le-leb b 57 l) refl

pub below : (b : ℕ) → b < 48 → digit b ≡ false
unfolding digit
below b h = rw (lt-leb 48 b h) refl

pub above : (b : ℕ) → 57 < b → digit b ≡ false
unfolding digit
above b h = rw (le-leb 48 b (omega (arith, h)), lt-leb b 57 h) refl

pub some : (w : List ℕ) → (length w ≡ 0 → ⊥) → all_digits w ≡ is_number w
unfolding is_number
some [] h = absurd (h refl)
some (b ∷ bs) h = refl

pub none : (w : List ℕ) → length w ≡ 0 → false ≡ is_number w
unfolding is_number
none [] h = refl
none (b ∷ bs) h = absurd (omega (arith, h))

-- what a byte counts: what it says of the byte that it counts something, and that it does not
some_by : (t : Bool) (n d : ℕ) → ◌≡◌ {A = Option ℕ} (Some d) (pick t (Some n) None) → (t ≡ true) × (d ≡ n)
unfolding pick
some_by true n d e = (refl, same_Some d n e)
some_by false n d e = absurd (none-some d (sym e))

none_by : (t : Bool) (n : ℕ) → ◌≡◌ {A = Option ℕ} None (pick t (Some n) None) → t ≡ false
unfolding pick
none_by true n e = absurd (none-some n e)
none_by false n e = refl

module _ (b : ℕ) where
  pub counts : (d : ℕ) → ◌≡◌ {A = Option ℕ} (Some d) (pick (digit b) (Some (b - 48)) None) → (digit b ≡ true) × (d ≡ b - 48)
  counts d e = some_by (digit b) (b - 48) d e

  pub counts_not : ◌≡◌ {A = Option ℕ} None (pick (digit b) (Some (b - 48)) None) → digit b ≡ false
  counts_not e = none_by (digit b) (b - 48) e

  pub counted : (d : ℕ) → d ≡ b - 48 → 48 ≤ b → b ≤ 57 → ◌≡◌ {A = Option ℕ} (Some d) (pick (digit b) (Some (b - 48)) None)
  unfolding pick
  counted d e h l = rw (is_digit b h l, e) refl

  pub uncounted : digit b ≡ false → ◌≡◌ {A = Option ℕ} None (pick (digit b) (Some (b - 48)) None)
  unfolding pick
  uncounted e = rw e refl

  pub in_digits : digit b ≡ true → (48 ≤ b) × (b ≤ 57)
  unfolding digit
  in_digits e = (leb-true 48 b (and_left _ _ e), leb-true b 57 (and_right (leb 48 b) _ e))

module _ (w : List ℕ) (i : ℕ) (h : i < length w) where
  pub another : (v : ℕ) → digit (get_or w i 0) ≡ true
      → (all_digits (drop i w) ≡ all_digits (drop (suc i) w)) × (onward v (drop i w) ≡ onward (onward v (get_or w i 0 ∷ [])) (drop (suc i) w))
  unfolding all_digits onward pick
  another v e = rw (drop-cons w i 0 h, e) (refl, refl)

  pub no_digit : digit (get_or w i 0) ≡ false → all_digits (drop i w) ≡ false
  unfolding all_digits pick
  no_digit e = rw (drop-cons w i 0 h, e) refl

pub all_read : (w : List ℕ) (i : ℕ) → length w ≤ i → (all_digits (drop i w) ≡ true) × ((v : ℕ) → onward v (drop i w) ≡ v)
unfolding all_digits onward
all_read w i h = rw (drop_of_length-le w h) (refl, λ v. refl)

-- WHAT IS READ is the number that the digits make, or both are 100,000 or more
pub stays : (ds : List ℕ) (v : ℕ) → 100000 ≤ v → onward v ds ≡ v
unfolding onward pick
stays [] v h = refl
stays (d ∷ ds) v h = rw (le-ltb v 100000 h) (stays ds v h)

pub grows : (ds : List ℕ) (v : ℕ) → v ≤ decimal v ds
unfolding decimal
grows [] v = omega arith
grows (d ∷ ds) v = omega (arith, grows ds (v * 10 + (d - 48)))

pub record Same (x y : ℕ) : Type 0 where
  pub small : x < 100000 → x ≡ y
  pub large : 100000 ≤ x → 100000 ≤ y

pub read_same : (ds : List ℕ) (v : ℕ) → Same (onward v ds) (decimal v ds)
unfolding onward decimal pick
read_same [] v = record { small = λ h. refl; large = λ h. h }
read_same (d ∷ ds) v =
    by_less v 100000
    (λ h. rw (lt-ltb v 100000 h) (read_same ds (v * 10 + (d - 48))))
    (λ h. let s = stays ds v h in
    let g = grows ds (v * 10 + (d - 48)) in
    rw (le-ltb v 100000 h, s) (record { small = λ l. absurd (omega (arith, h, l)); large = λ l. omega (arith, g, h) }))

-- ---- zeros that a number does not need
pub zeros_least : (w : List ℕ) → min (length (take_while (λ b. eqb b 48) w)) (length w - 1) ≡ zeros_before w
unfolding zeros_before pick
zeros_least [] = refl
zeros_least (b ∷ []) = omega arith
zeros_least (b ∷ c ∷ bs) = by (eqb b 48) refl (zeros_least (c ∷ bs))
  where
    by : (t : Bool) → eqb b 48 ≡ t → min (length (take_while (λ x. eqb x 48) (c ∷ bs))) (length (c ∷ bs) - 1) ≡ zeros_before (c ∷ bs)
        → min (length (take_while (λ x. eqb x 48) (b ∷ c ∷ bs))) (length (b ∷ c ∷ bs) - 1) ≡ pick (eqb b 48) (suc (zeros_before (c ∷ bs))) 0
    by true e r = rw (take_while-cons (λ x. eqb x 48) b (c ∷ bs), e) (omega (arith, r))
    by false e r = rw (take_while-cons (λ x. eqb x 48) b (c ∷ bs), e) (omega arith)

-- ---- two letters that are left
-- of letters that are more than one, a second
pub more : (w : List ℕ) (i : ℕ) → i < length w → (length w - i ≡ 1 → ⊥) → suc i < length w
more w i h n = by_less (suc i) (length w) (λ l. l) (λ l. absurd (n (omega (arith, h, l))))

pub two_left : (w : List ℕ) (i : ℕ) → suc i < length w → drop i w ≡ get_or w i 0 ∷ (get_or w (suc i) 0 ∷ drop (suc (suc i)) w)
two_left w i h = drop-cons w i 0 (omega (arith, h)) ∙ ap (λ (r : List ℕ). get_or w i 0 ∷ r) (drop-cons w (suc i) 0 h)
