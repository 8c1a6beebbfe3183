-- WHAT THE ROOM HOLDS after an append: the longer journal, and behind it what stood there before; and its index is the one worked out afresh.
use mathlib.Core.Path.{◌≡◌, refl, sym, ap, ◌∙◌}
use mathlib.Core.Bool.{Bool}
use mathlib.Core.List.{List, [], ◌∷◌, ◌++◌}
use Prim.Native.Nat.{ℕ, ◌+◌, ◌≤◌}
use native.Mathlib.Omega.{arith}
use borrow.Author.Tests.{eq-eqb, ne_eqb, lt-ltb}
use lib.Dec.{ltb, eqb}
use lib.ListN.{length, take, drop, length-append}
use lib.Seq.{sets, sets-eq, length-take-le, take-append_seam, drop-append_seam, length-sets}
use Rattle.ledger.specs.Choice.{pick, first}
use Rattle.ledger.specs.Numbers.{too_long, index_differs}
use Rattle.ledger.proofs.Picks.{pick_by}
use Rattle.journal.specs.Header.{largest}
use Rattle.journal.specs.Walking.{ending_of}
use Rattle.journal.proofs.Sides.{by_same, by_less}
use Rattle.journal.proofs.GoodHeader.{header_good}
use Rattle.journal.proofs.Appended.{ends_well}
use Rattle.index.specs.Summary.{index_of}
use Rattle.index.specs.Calls.{ending_in, most_numbers, append_refused, look_refused, appended, room_after}
use Rattle.index.specs.declared.summary.Index.{Index}
use Rattle.index.specs.declared.appending.Appended.{Appended}
use Rattle.index.proofs.Refusing.{first_of, second_of, third_of, fits_room}

module _ (room : List ℕ) (n : ℕ) (more : List ℕ) (fits : n + length more ≤ length room) where
  longer : sets room n more ≡ (take n room ++ more) ++ drop (n + length more) room
  longer = sets-eq more room n fits

  size : length (take n room ++ more) ≡ n + length more
  size = length-append (take n room) more ∙ ap (λ (k : ℕ). k + length more) (length-take-le n room (omega (arith, fits)))

  -- the longer journal
  pub holds_longer : take (n + length more) (room_after 0 room n more) ≡ take n room ++ more
  unfolding room_after pick
  holds_longer = rw (longer, ← size) (take-append_seam (take n room ++ more) (drop (length (take n room ++ more)) room))

  -- and the rest as it was
  pub keeps_rest : drop (n + length more) (room_after 0 room n more) ≡ drop (n + length more) room
  unfolding room_after pick
  keeps_rest = rw (longer, ← size) (drop-append_seam (take n room ++ more) (drop (length (take n room ++ more)) room))

  -- the index that is answered is the one worked out afresh from what the room then holds
  pub index_of_room : (kept : Index) → (appended 0 room n kept more).index ≡ index_of (take (n + length more) (room_after 0 room n more))
  unfolding appended pick
  index_of_room kept = ap index_of (sym holds_longer)

-- A REFUSED CALL leaves every byte of the room, the length and the index as they were
module _ (refused : ℕ) (h : refused ≡ 0 → ⊥) (room : List ℕ) (n : ℕ) (ix : Index) (more : List ℕ) where
  pub room_kept : room_after refused room n more ≡ room
  unfolding room_after pick
  room_kept = rw (ne_eqb refused 0 h) refl

  pub answer_kept : appended refused room n ix more ≡ record { number = refused; len = n; index = ix }
  unfolding appended pick
  answer_kept = rw (ne_eqb refused 0 h) refl

-- ---- what a call that was not refused was given
all_zero : (a b c : ℕ) → first (a ∷ b ∷ c ∷ []) ≡ 0 → (a ≡ 0) × (c ≡ 0)
all_zero a b c e =
    by_same a 0
    (λ z. by_same b 0 (λ y. (z, third_of a b c z y ∙ e)) (λ y. absurd (y (second_of a b c z y ∙ e))))
    (λ z. absurd (z (first_of a b c z ∙ e)))

-- a longer journal that ends with 0 fits the room
pub longer_fits : (good : Bool) (room : List ℕ) (n : ℕ) (more : List ℕ) → length room ≡ largest → append_refused good room n more ≡ 0 → n + length more ≤ largest
unfolding append_refused
longer_fits good room n more l e =
    let z = all_zero (ending_in room n) (pick good 0 index_differs) (ending_of (take n room ++ more)) e in
    let f = fits_room room n z.0 in
    let g = (header_good (take n room ++ more) (ends_well (take n room ++ more) z.1)).fits in
    omega (arith, f, g, l, length-append (take n room) more, length-take-le n room (omega (arith, f, l)))

pub answered_fits : (refused : ℕ) (room : List ℕ) (n : ℕ) (ix : Index) (more : List ℕ) → (refused ≡ 0 → n + length more ≤ largest) → (r : Appended) → r ≡ appended refused room n ix more → r.number ≡ 0 → r.len ≤ largest
unfolding appended pick
answered_fits refused room n ix more h r e z =
    by_same refused 0
    (λ q. let a : r ≡ record { number = 0; len = n + length more; index = index_of (take n room ++ more) } = rw (eq-eqb refused 0 q) at e in
    omega (arith, h q, ap (λ (x : Appended). x.len) a))
    (λ q. let a : r ≡ record { number = refused; len = n; index = ix } = rw (ne_eqb refused 0 q) at e in
    absurd (q (sym (ap (λ (x : Appended). x.number) a) ∙ z)))

pub room_length : (refused : ℕ) (room : List ℕ) (n : ℕ) (more : List ℕ) → length (room_after refused room n more) ≡ length room
unfolding room_after
room_length refused room n more = pick_by (λ (l : List ℕ). length l ≡ length room) (eqb refused 0) (λ t. length-sets room n more) (λ t. refl)

-- and no 65th number
pub few_numbers : (good : Bool) (room : List ℕ) (n : ℕ) (numbers : List ℕ) → look_refused good room n numbers ≡ 0 → length numbers ≤ most_numbers
unfolding look_refused pick
few_numbers good room n numbers e =
    by_less most_numbers (length numbers)
    (λ h. let z = (all_zero (ending_in room n) (pick good 0 index_differs) (pick (ltb most_numbers (length numbers)) too_long 0) e).1 in
    let q : too_long ≡ 0 = rw (lt-ltb most_numbers (length numbers) h) at z in
    absurd (omega (arith, q)))
    (λ h. h)
