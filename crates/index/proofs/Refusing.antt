-- What is refused, test by test.
use mathlib.Core.Path.{◌≡◌, refl, sym, ap, ◌∙◌}
use mathlib.Core.Bool.{Bool, true, false}
use mathlib.Core.List.{List, [], ◌∷◌, ◌++◌}
use Prim.Native.Nat.{ℕ, ◌≤◌, ◌<◌}
use native.Mathlib.Omega.{arith}
use borrow.Author.Tests.{eq-eqb, ne_eqb, eqb-true, lt-ltb, le-ltb}
use lib.Dec.{ltb, eqb}
use lib.ListN.{length, take}
use Rattle.ledger.specs.Choice.{pick, first}
use Rattle.ledger.specs.Numbers.{journal_too_large, index_differs, too_long}
use Rattle.ledger.proofs.Picks.{pick_by}
use Rattle.journal.specs.Header.{largest}
use Rattle.journal.specs.Walking.{ending_of}
use Rattle.journal.proofs.Sides.{by_less, by_same}
use Rattle.index.specs.Summary.{index_of}
use Rattle.index.specs.Calls.{ending_in, fresh_of, fresh_in, most_numbers, append_refused, look_refused}
use Rattle.index.specs.declared.summary.Index.{Index}
use Rattle.index.specs.declared.fresh.Fresh.{Fresh}

-- ---- the first number that is not 0
module _ (a b c : ℕ) where
  pub first_of : (a ≡ 0 → ⊥) → a ≡ first (a ∷ b ∷ c ∷ [])
  unfolding first pick
  first_of h = rw (ne_eqb a 0 h) refl

  pub second_of : a ≡ 0 → (b ≡ 0 → ⊥) → b ≡ first (a ∷ b ∷ c ∷ [])
  unfolding first pick
  second_of z h = rw (eq-eqb a 0 z, ne_eqb b 0 h) refl

  pub third_of : a ≡ 0 → b ≡ 0 → c ≡ first (a ∷ b ∷ c ∷ [])
  unfolding first pick
  third_of z y =
      rw (eq-eqb a 0 z, eq-eqb b 0 y)
      (pick_by (λ (x : ℕ). c ≡ x) (eqb c 0) (λ e. eqb-true c 0 e) (λ e. refl))

-- ---- what was worked out in a room
module _ (room : List ℕ) (n : ℕ) where
  number_in : (fresh_in room n).number ≡ ending_in room n
  unfolding fresh_in fresh_of ending_in pick
  number_in = by_less largest n (λ h. rw (lt-ltb largest n h) refl) (λ h. rw (le-ltb largest n h) refl)

  -- a journal that ends with 0 fits its room
  pub fits_room : ending_in room n ≡ 0 → n ≤ largest
  unfolding ending_in pick
  fits_room e = by_less largest n (λ h. let z : journal_too_large ≡ 0 = rw (lt-ltb largest n h) at e in absurd (omega (arith, z))) (λ h. h)

  pub index_in : ending_in room n ≡ 0 → (fresh_in room n).index ≡ index_of (take n room)
  unfolding fresh_in fresh_of ending_in pick
  index_in e =
      let h = fits_room e in
      let z : ending_of (take n room) ≡ 0 = rw (le-ltb largest n h) at e in
      rw (le-ltb largest n h, z) refl

  module _ (found : Fresh) (known : found ≡ fresh_in room n) where
    pub ends : found.number ≡ ending_in room n
    ends = ap (λ (x : Fresh). x.number) known ∙ number_in

    pub found_index : found.number ≡ 0 → found.index ≡ index_of (take n room)
    found_index z = ap (λ (x : Fresh). x.index) known ∙ index_in (sym ends ∙ z)

    -- an index is tested where there is one: what it is tested against has no say before
    pub tested : (test : Index → Bool) (c : ℕ)
        → first (ending_in room n ∷ pick (test found.index) 0 index_differs ∷ c ∷ []) ≡ first (ending_in room n ∷ pick (test (index_of (take n room))) 0 index_differs ∷ c ∷ [])
    tested test c =
        by_same found.number 0
        (λ z. ap (λ (x : Index). first (ending_in room n ∷ pick (test x) 0 index_differs ∷ c ∷ [])) (found_index z))
        (λ h. let e : ending_in room n ≡ 0 → ⊥ = (λ q. h (ends ∙ q)) in
        sym (first_of (ending_in room n) (pick (test found.index) 0 index_differs) c e) ∙ first_of (ending_in room n) (pick (test (index_of (take n room))) 0 index_differs) c e)

    module _ (good : Bool) (c : ℕ) where
      abbrev All : ℕ
      All = first (ending_in room n ∷ pick good 0 index_differs ∷ c ∷ [])

      pub by_journal : (found.number ≡ 0 → ⊥) → found.number ≡ All
      by_journal h = ends ∙ first_of (ending_in room n) (pick good 0 index_differs) c (λ q. h (ends ∙ q))

      pub by_index : found.number ≡ 0 → good ≡ false → index_differs ≡ All
      unfolding pick
      by_index z g = rw g (second_of (ending_in room n) index_differs c (sym ends ∙ z) (λ q. omega (arith, q)))

      pub by_last : found.number ≡ 0 → good ≡ true → c ≡ All
      unfolding pick
      by_last z g = rw g (third_of (ending_in room n) 0 c (sym ends ∙ z) refl)

    -- a 65th record number
    module _ (good : Bool) (numbers : List ℕ) (z : found.number ≡ 0) (g : good ≡ true) where
      pub too_many : most_numbers < length numbers → too_long ≡ look_refused good room n numbers
      unfolding look_refused pick
      too_many h =
          let t : pick (ltb most_numbers (length numbers)) too_long 0 ≡ too_long = rw (lt-ltb most_numbers (length numbers) h) refl in
          sym t ∙ by_last good (pick (ltb most_numbers (length numbers)) too_long 0) z g

      pub few_enough : length numbers ≤ most_numbers → 0 ≡ look_refused good room n numbers
      unfolding look_refused pick
      few_enough h =
          let t : pick (ltb most_numbers (length numbers)) too_long 0 ≡ 0 = rw (le-ltb most_numbers (length numbers) h) refl in
          sym t ∙ by_last good (pick (ltb most_numbers (length numbers)) too_long 0) z g

    -- the test that was made, against the index that was worked out, is the one against the journal's own, in both calls and of whatever index is at hand
    module _ (test : Index → Bool) where
      pub append_tested : (more : List ℕ) → append_refused (test found.index) room n more ≡ append_refused (test (index_of (take n room))) room n more
      unfolding append_refused
      append_tested more = tested test (ending_of (take n room ++ more))

      pub look_tested : (numbers : List ℕ) → look_refused (test found.index) room n numbers ≡ look_refused (test (index_of (take n room))) room n numbers
      unfolding look_refused
      look_tested numbers = tested test (pick (ltb most_numbers (length numbers)) too_long 0)
