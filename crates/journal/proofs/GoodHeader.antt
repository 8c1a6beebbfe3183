-- The header test by test: which number it gives; that the number is 0 exactly if all that a good header has is there; and what a cut leaves
-- of it.
use mathlib.Core.Path.{◌≡◌, refl, sym, ap, ap₂, ◌∙◌}
use mathlib.Core.Bool.{Bool, true, false}
use mathlib.Core.List.{List, [], ◌∷◌, ◌++◌}
use mathlib.Core.Logic.{◌⊎◌, inl, inr}
use Prim.Native.Nat.{ℕ, suc, ◌+◌, ◌-◌, ◌≤◌, ◌<◌, min}
use native.Mathlib.Omega.{arith}
use borrow.Author.Tests.{ltb-false, lt-ltb, le-ltb, eqb-true, eq-eqb, ne_eqb, not-false}
use lib.Dec.{eqb}
use lib.ListN.{length, get_or, take, drop, length-take, length-drop, length-append, get_or-append}
use lib.Seq.{get_or-take, take-append-le, drop-append-le}
use Rattle.std.specs.Cmp.Lexicographic.{pointwise, same_text, other_text}
use Rattle.ledger.specs.Choice.{pick}
use Rattle.ledger.specs.Numbers.{mark_wrong, version_wrong, cut_short, journal_too_large}
use Rattle.words.specs.Bytes.{le_number}
use Rattle.journal.specs.Reading.{num}
use Rattle.journal.specs.Header.{largest, records_begin, heading, known, refusal_within, header_within, header_of, version_of}
use Rattle.journal.specs.Found.{Heading}
use Rattle.journal.proofs.Sides.{by_less, by_same}
use Rattle.journal.proofs.Runs.{payload_cut}

-- n bytes of a good header's journal
pub record GoodHeader (n : ℕ) (j : List ℕ) : Type 0 where
  pub fits : n ≤ largest
  pub there : records_begin ≤ n
  pub first : get_or j 0 0 ≡ 78
  pub second : get_or j 1 0 ≡ 75
  pub third : get_or j 2 0 ≡ 74
  pub version : known (num 2 j 3) ≡ true

-- a number other than 0 was not chosen
not_this : (t : Bool) (n x : ℕ) → pick t (suc n) x ≡ 0 → (t ≡ false) × (x ≡ 0)
unfolding pick
not_this true n x e = let no : ⊥ = omega arith in elim no [ ]
not_this false n x e = (refl, e)

module _ (n : ℕ) (j : List ℕ) where
  refusal_good : refusal_within n j ≡ 0 → GoodHeader n j
  unfolding refusal_within
  refusal_good e =
      let a = not_this _ _ _ e in
      let b = not_this _ _ _ a.1 in
      let c = not_this _ _ _ b.1 in
      let d = not_this _ _ _ c.1 in
      let f = not_this _ _ _ d.1 in
      let g = not_this _ _ _ f.1 in
      let h = not_this _ _ _ g.1 in
      let i = not_this _ _ _ h.1 in
      record {
        fits = ltb-false _ _ a.0;
        there = ltb-false _ _ i.0;
        first = eqb-true _ _ (not-false _ c.0);
        second = eqb-true _ _ (not-false _ d.0);
        third = eqb-true _ _ (not-false _ f.0);
        version = not-false _ h.0;
      }

  pub good_refusal : GoodHeader n j → refusal_within n j ≡ 0
  unfolding refusal_within pick
  good_refusal g =
      let w = g.there in
      rw (le-ltb largest n g.fits, le-ltb n 3 (omega arith), eq-eqb _ _ g.first, eq-eqb _ _ g.second, eq-eqb _ _ g.third, le-ltb n 5 (omega arith), g.version, le-ltb n records_begin w)

  -- the number of each test, where those before it pass
  pub too_large : largest < n → journal_too_large ≡ refusal_within n j
  unfolding refusal_within pick
  too_large a = rw (lt-ltb largest n a)

  pub no_mark : n ≤ largest → n < 3 → mark_wrong ≡ refusal_within n j
  unfolding refusal_within pick
  no_mark a b = rw (le-ltb largest n a, lt-ltb n 3 b)

  pub first_wrong : n ≤ largest → 3 ≤ n → (get_or j 0 0 ≡ 78 → ⊥) → mark_wrong ≡ refusal_within n j
  unfolding refusal_within pick
  first_wrong a b c = rw (le-ltb largest n a, le-ltb n 3 b, ne_eqb (get_or j 0 0) 78 c)

  pub second_wrong : n ≤ largest → 3 ≤ n → get_or j 0 0 ≡ 78 → (get_or j 1 0 ≡ 75 → ⊥) → mark_wrong ≡ refusal_within n j
  unfolding refusal_within pick
  second_wrong a b c d = rw (le-ltb largest n a, le-ltb n 3 b, eq-eqb (get_or j 0 0) 78 c, ne_eqb (get_or j 1 0) 75 d)

  pub third_wrong : n ≤ largest → 3 ≤ n → get_or j 0 0 ≡ 78 → get_or j 1 0 ≡ 75 → (get_or j 2 0 ≡ 74 → ⊥) → mark_wrong ≡ refusal_within n j
  unfolding refusal_within pick
  third_wrong a b c d e =
      rw (le-ltb largest n a, le-ltb n 3 b, eq-eqb (get_or j 0 0) 78 c, eq-eqb (get_or j 1 0) 75 d, ne_eqb (get_or j 2 0) 74 e)

  pub no_version : 3 ≤ n → get_or j 0 0 ≡ 78 → get_or j 1 0 ≡ 75 → get_or j 2 0 ≡ 74 → n < 5 → cut_short ≡ refusal_within n j
  unfolding refusal_within pick
  no_version b c d e f =
      rw (le-ltb largest n (omega arith), le-ltb n 3 b, eq-eqb (get_or j 0 0) 78 c, eq-eqb (get_or j 1 0) 75 d, eq-eqb (get_or j 2 0) 74 e, lt-ltb n 5 f)

  pub version_wrong_lem : n ≤ largest → 5 ≤ n → get_or j 0 0 ≡ 78 → get_or j 1 0 ≡ 75 → get_or j 2 0 ≡ 74 → known (num 2 j 3) ≡ false → version_wrong ≡ refusal_within n j
  unfolding refusal_within pick
  version_wrong_lem a b c d e g =
      rw (le-ltb largest n a, le-ltb n 3 (omega arith), eq-eqb (get_or j 0 0) 78 c, eq-eqb (get_or j 1 0) 75 d, eq-eqb (get_or j 2 0) 74 e, le-ltb n 5 b, g)

  pub no_start : 5 ≤ n → get_or j 0 0 ≡ 78 → get_or j 1 0 ≡ 75 → get_or j 2 0 ≡ 74 → known (num 2 j 3) ≡ true → n < records_begin → cut_short ≡ refusal_within n j
  unfolding refusal_within pick
  no_start b c d e g h =
      rw (le-ltb largest n (omega arith), le-ltb n 3 (omega arith), eq-eqb (get_or j 0 0) 78 c, eq-eqb (get_or j 1 0) 75 d, eq-eqb (get_or j 2 0) 74 e, le-ltb n 5 b, g, lt-ltb n records_begin h)

-- the number of a whole journal's header
abbrev pub refusal_of : List ℕ → ℕ
refusal_of j = refusal_within (length j) j

-- ---- the mark's three letters, tested at once
three : (j : List ℕ) → 3 ≤ length j → take 3 j ≡ get_or j 0 0 ∷ get_or j 1 0 ∷ get_or j 2 0 ∷ []
three [] h = absurd (omega arith)
three (a ∷ []) h = absurd (omega arith)
three (a ∷ b ∷ []) h = absurd (omega arith)
three (a ∷ b ∷ c ∷ j) h = refl

module _ (j : List ℕ) (r : Bool) (is : r ≡ pointwise eqb (78 ∷ 75 ∷ 74 ∷ []) (take 3 j)) where
  pub letters : r ≡ true → (get_or j 0 0 ≡ 78) × ((get_or j 1 0 ≡ 75) × (get_or j 2 0 ≡ 74))
  letters t =
      let e = same_text (78 ∷ 75 ∷ 74 ∷ []) (take 3 j) (sym t ∙ is) in
      let at : (i : ℕ) → i < 3 → get_or j i 0 ≡ get_or (78 ∷ 75 ∷ 74 ∷ []) i 0 = λ i h. sym (get_or-take 3 j i 0 h) ∙ ap (λ (l : List ℕ). get_or l i 0) (sym e) in
      (at 0 (omega arith), (at 1 (omega arith), at 2 (omega arith)))

  pub unmarked : length j ≤ largest → r ≡ false → mark_wrong ≡ refusal_of j
  unmarked l f =
      by_less (length j) 3 (λ h. no_mark (length j) j l h)
      (λ h. by_same (get_or j 0 0) 78
      (λ a. by_same (get_or j 1 0) 75
      (λ b. by_same (get_or j 2 0) 74
      (λ c. absurd (other_text (78 ∷ 75 ∷ 74 ∷ []) (take 3 j) (sym f ∙ is) (rw (three j h, a, b, c) refl)))
      (λ c. third_wrong (length j) j l h a b c))
      (λ b. second_wrong (length j) j l h a b))
      (λ a. first_wrong (length j) j l h a))

-- ---- the header, by that number
pub header_number : (j : List ℕ) → (header_of j).number ≡ refusal_of j
unfolding header_of header_within pick
header_number j = by_same (refusal_of j) 0 (λ e. rw (eq-eqb _ 0 e) (sym e)) (λ h. rw (ne_eqb _ 0 h) refl)

module _ (j : List ℕ) where
  pub header_good : (header_of j).number ≡ 0 → GoodHeader (length j) j
  header_good e = refusal_good (length j) j (sym (header_number j) ∙ e)

  -- a good one has the version that stands there
  pub good_header : GoodHeader (length j) j → header_of j ≡ heading 0 (num 2 j 3) records_begin
  unfolding header_of header_within pick
  good_header g = rw (good_refusal (length j) j g) refl

  pub version_there : (header_of j).number ≡ 0 → version_of j ≡ num 2 j 3
  version_there e = ap (λ (x : Heading). x.version) (good_header (header_good e))

  pub heading_good : (header_of j).number ≡ 0 → header_of j ≡ heading 0 (version_of j) records_begin
  heading_good e = good_header (header_good e) ∙ ap (λ (v : ℕ). heading 0 v records_begin) (sym (version_there e))

  -- which is 1 or 2
  pub good_version : (header_of j).number ≡ 0 → (version_of j ≡ 1) ⊎ (version_of j ≡ 2)
  unfolding known
  good_version e =
      by_same (version_of j) 1 inl
      (λ n. let k : known (version_of j) ≡ true = rw (version_there e) (header_good e).version in
      inr (eqb-true (version_of j) 2 (rw (ne_eqb (version_of j) 1 n) at k)))

  -- any other says nothing but its number
  pub heading_bad : ((header_of j).number ≡ 0 → ⊥) → header_of j ≡ heading (refusal_of j) 0 0
  unfolding header_of header_within pick
  heading_bad h = rw (ne_eqb (refusal_of j) 0 (λ e. h (header_number j ∙ e))) refl

  -- what is said by the number that was found
  pub said_good : (n v : ℕ) → n ≡ refusal_of j → n ≡ 0 → v ≡ num 2 j 3 → heading n v records_begin ≡ header_of j
  said_good n v e z w =
      ap₂ (λ (m u : ℕ). heading m u records_begin) z w ∙ sym (good_header (header_good (header_number j ∙ sym e ∙ z)))

  -- and its bytes are there to be read
  pub version_read : (n : ℕ) → n ≡ refusal_of j → n ≡ 0 → 3 + 2 ≤ length j
  version_read n e z = let w = (refusal_good (length j) j (sym e ∙ z)).there in omega arith

  pub said_bad : (n : ℕ) → n ≡ refusal_of j → (n ≡ 0 → ⊥) → heading n 0 0 ≡ header_of j
  said_bad n e h = ap (λ (m : ℕ). heading m 0 0) e ∙ sym (heading_bad (λ z. h (e ∙ sym (header_number j) ∙ z)))

-- ---- a journal that is cut
module _ (n : ℕ) (i k : List ℕ) (same : (at : ℕ) → at < n → get_or i at 0 ≡ get_or k at 0) (version : 5 ≤ n → num 2 i 3 ≡ num 2 k 3) where
  -- five bytes have a say, and each only where it is there
  by_five : refusal_within n i ≡ refusal_within n k
  unfolding refusal_within pick
  by_five =
      by_less n 3 (λ h. rw (lt-ltb n 3 h) refl)
      (λ h. by_less n 5 (λ s. rw (lt-ltb n 5 s, same 0 (omega arith), same 1 (omega arith), same 2 (omega arith)) refl)
      (λ s. rw (version s, same 0 (omega arith), same 1 (omega arith), same 2 (omega arith)) refl))

  same_header : header_within n i ≡ header_within n k
  unfolding header_within pick
  same_header =
      by_same (refusal_within n k) 0
      (λ e. let w = (refusal_good n k e).there in rw (by_five, eq-eqb (refusal_within n k) 0 e, version (omega arith)) refl)
      (λ h. rw (by_five, ne_eqb (refusal_within n k) 0 h) refl)

version_cut : (n : ℕ) (j : List ℕ) → 5 ≤ n → num 2 (take n j) 3 ≡ num 2 j 3
version_cut n j h = ap le_number (payload_cut n j 3 2 h)

-- THE HEADER of a journal that is cut is that of the whole, with so many bytes there
pub header_cut : (n : ℕ) (j : List ℕ) → header_of (take n j) ≡ header_within (min n (length j)) j
unfolding header_of
header_cut n j =
    rw (length-take n j)
    (same_header (min n (length j)) (take n j) j (λ at h. get_or-take n j at 0 (omega (arith, h))) (λ h. version_cut n j (omega (arith, h))))

-- one that is good stays so as far as its bytes go
pub good_kept : (n : ℕ) (j : List ℕ) → records_begin ≤ n → GoodHeader (length j) j → GoodHeader (length (take n j)) (take n j)
good_kept n j h g =
    let w = g.there in
    let f = g.fits in
    record {
      fits = rw length-take (omega arith);
      there = rw length-take (omega arith);
      first = get_or-take n j 0 0 (omega arith) ∙ g.first;
      second = get_or-take n j 1 0 (omega arith) ∙ g.second;
      third = get_or-take n j 2 0 (omega arith) ∙ g.third;
      version = rw (version_cut n j (omega arith)) g.version;
    }

pub header_kept : (n : ℕ) (j : List ℕ) → records_begin ≤ n → (header_of j).number ≡ 0 → (header_of (take n j)).number ≡ 0
header_kept n j h e = ap (λ (x : Heading). x.number) (good_header (take n j) (good_kept n j h (header_good j e)))

-- in the same version
pub version_kept : (n : ℕ) (j : List ℕ) → records_begin ≤ n → (header_of j).number ≡ 0 → version_of (take n j) ≡ version_of j
version_kept n j h e = version_there (take n j) (header_kept n j h e) ∙ version_cut n j (omega arith) ∙ sym (version_there j e)

version_append : (j more : List ℕ) → 5 ≤ length j → num 2 (j ++ more) 3 ≡ num 2 j 3
version_append j more h =
    let d : length (drop 3 j) ≡ length j - 3 = length-drop 3 j in
    rw (drop-append-le 3 j more (omega arith), take-append-le 2 (drop 3 j) more (omega arith))

-- and so does one behind which more bytes stand
pub good_longer : (j more : List ℕ) → length (j ++ more) ≤ largest → GoodHeader (length j) j → GoodHeader (length (j ++ more)) (j ++ more)
good_longer j more l g =
    let w = g.there in
    record {
      fits = l;
      there = rw (length-append j more) (omega arith);
      first = get_or-append j more 0 0 (omega arith) ∙ g.first;
      second = get_or-append j more 0 1 (omega arith) ∙ g.second;
      third = get_or-append j more 0 2 (omega arith) ∙ g.third;
      version = rw (version_append j more (omega arith)) g.version;
    }

pub header_longer : (j more : List ℕ) → length (j ++ more) ≤ largest → (header_of j).number ≡ 0 → (header_of (j ++ more)).number ≡ 0
header_longer j more l e = ap (λ (x : Heading). x.number) (good_header (j ++ more) (good_longer j more l (header_good j e)))

-- in the same version
pub version_longer : (j more : List ℕ) → length (j ++ more) ≤ largest → (header_of j).number ≡ 0 → version_of (j ++ more) ≡ version_of j
version_longer j more l e =
    let w = (header_good j e).there in
    version_there (j ++ more) (header_longer j more l e) ∙ version_append j more (omega arith) ∙ sym (version_there j e)
