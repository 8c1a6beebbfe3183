-- THE UPDATED INDEX is the one worked out afresh: record by record, and for any number of records more.
use mathlib.Core.Path.{◌≡◌, refl, sym, ap, ◌∙◌}
use mathlib.Core.Bool.{true}
use mathlib.Core.List.{List, [], ◌∷◌, ◌++◌, map, map-append, append-nil}
use Prim.Native.Nat.{ℕ, zero, suc, ◌+◌, ◌-◌, ◌*◌, ◌/◌, ◌%◌, ◌≤◌, ◌<◌}
use native.Mathlib.Omega.{arith}
use borrow.Author.Tests.{eq-eqb, ne_eqb, eqb-true}
use lib.Dec.{eqb}
use lib.ListN.{length, get_or, set, replicate, length-set, length-append, length-map, length-replicate, get_or-replicate}
use lib.Seq.{ext_get_or, get_or-set_same, get_or-set_other, append_snoc}
use Rattle.ledger.specs.Choice.{pick}
use Rattle.ledger.proofs.Picks.{pick_by}
use Rattle.journal.specs.Layout.{sum, kind_of}
use Rattle.journal.specs.Walking.{Entry}
use Rattle.journal.specs.Writing.{further}
use Rattle.journal.proofs.Sides.{by_same}
use Rattle.index.specs.Summary.{every, most_places, kinds_there_are, table, places_of, of_kind, kinds_of, asks, reads_of, index, summary_of, records_in, added, updated}
use Rattle.index.proofs.Records.{one_of_six}
use Rattle.index.proofs.Tables.{length-table, get_or-table, get_or_last, get_or_not_last}

abbrev place_of : Entry → ℕ
place_of e = e.place

abbrev at : List Entry → ℕ → ℕ
at es i = get_or (map place_of es) (every * i) 0

module _ (es : List Entry) (e : Entry) where
  -- ---- places
  last : (i : ℕ) → every * i ≡ length es → at (es ++ (e ∷ [])) i ≡ e.place
  last i h = rw (map-append place_of es (e ∷ [])) (get_or_last (map place_of es) e.place (every * i) (h ∙ sym (length-map es place_of)))

  not_last : (i : ℕ) → (every * i ≡ length es → ⊥) → at (es ++ (e ∷ [])) i ≡ at es i
  not_last i h = rw (map-append place_of es (e ∷ [])) (get_or_not_last (map place_of es) e.place (every * i) (λ k. h (k ∙ length-map es place_of)))

  abbrev Marked : List ℕ
  Marked = pick (eqb (length es % every) 0) (set (places_of es) (length es / every) e.place) (places_of es)

  marked_length : length Marked ≡ most_places
  unfolding places_of
  marked_length =
      pick_by (λ (l : List ℕ). length l ≡ most_places) (eqb (length es % every) 0)
      (λ t. length-set (places_of es) (length es / every) e.place ∙ length-table most_places (at es)) (λ t. length-table most_places (at es))

  marked_at : (i : ℕ) → i < most_places → get_or Marked i 0 ≡ at (es ++ (e ∷ [])) i
  unfolding places_of pick
  marked_at i h =
      by_same (every * i) (length es)
      (λ k. let d : length es / every ≡ i = omega (arith, k) in
      let l : i < length (table most_places (at es)) = omega (arith, h, length-table most_places (at es)) in
      rw (eq-eqb (length es % every) 0 (omega (arith, k)), d) (get_or-set_same (table most_places (at es)) i e.place 0 l ∙ sym (last i k)))
      (λ k. pick_by (λ (l : List ℕ). get_or l i 0 ≡ at (es ++ (e ∷ [])) i) (eqb (length es % every) 0)
      (λ t. get_or-set_other (table most_places (at es)) (length es / every) i e.place 0 (λ q. k (whole i q t)) ∙ get_or-table most_places (at es) i h ∙ sym (not_last i k))
      (λ t. get_or-table most_places (at es) i h ∙ sym (not_last i k)))
    where
      whole : (i : ℕ) → i ≡ length es / every → eqb (length es % every) 0 ≡ true → every * i ≡ length es
      whole i q t = let z = eqb-true (length es % every) 0 t in omega (arith, q, z)

  places_more : Marked ≡ places_of (es ++ (e ∷ []))
  unfolding places_of
  places_more =
      ext_get_or 0 Marked (table most_places (at (es ++ (e ∷ [])))) (marked_length ∙ sym (length-table most_places (at (es ++ (e ∷ [])))))
      (λ i h. let l : i < most_places = omega (arith, h, marked_length) in marked_at i l ∙ sym (get_or-table most_places (at (es ++ (e ∷ []))) i l))

  -- ---- kinds
  kind_more : (k : ℕ) → of_kind k (es ++ (e ∷ [])) ≡ of_kind k es + pick (eqb (kind_of e.what) k) 1 0
  unfolding of_kind
  kind_more k = snoc es
    where
      snoc : (xs : List Entry) → of_kind k (xs ++ (e ∷ [])) ≡ of_kind k xs + pick (eqb (kind_of e.what) k) 1 0
      snoc [] = omega arith
      snoc (x ∷ xs) = omega (arith, snoc xs)

  abbrev K : ℕ
  K = kind_of e.what - 1

  abbrev Counted : List ℕ
  Counted = set (kinds_of es) K (get_or (kinds_of es) K 0 + 1)

  counted_length : length Counted ≡ kinds_there_are
  unfolding kinds_of
  counted_length = length-set (kinds_of es) K (get_or (kinds_of es) K 0 + 1) ∙ length-table kinds_there_are (λ i. of_kind (suc i) es)

  counted_at : (i : ℕ) → i < kinds_there_are → get_or Counted i 0 ≡ of_kind (suc i) (es ++ (e ∷ []))
  unfolding kinds_of pick
  counted_at i h =
      let t = table kinds_there_are (λ k. of_kind (suc k) es) in
      let six = one_of_six e.what (kind_of e.what) refl in
      let g = get_or-table kinds_there_are (λ k. of_kind (suc k) es) i h in
      by_same i K
      (λ q. let l : i < length t = omega (arith, h, length-table kinds_there_are (λ k. of_kind (suc k) es)) in
      let m : kind_of e.what ≡ suc i = omega (arith, q, six.0) in
      rw (← q) (get_or-set_same t i (get_or t i 0 + 1) 0 l ∙ ap (λ (x : ℕ). x + 1) g) ∙ sym (rw (eq-eqb (kind_of e.what) (suc i) m) at (kind_more (suc i))))
      (λ q. let m : kind_of e.what ≡ suc i → ⊥ = (λ z. q (omega (arith, z))) in
      get_or-set_other t K i (get_or t K 0 + 1) 0 q ∙ g ∙ sym (rw (ne_eqb (kind_of e.what) (suc i) m) at (kind_more (suc i)) ∙ omega arith))

  kinds_more : Counted ≡ kinds_of (es ++ (e ∷ []))
  unfolding kinds_of
  kinds_more =
      let f : ℕ → ℕ = λ i. of_kind (suc i) (es ++ (e ∷ [])) in
      ext_get_or 0 Counted (table kinds_there_are f) (counted_length ∙ sym (length-table kinds_there_are f))
      (λ i h. let l : i < kinds_there_are = omega (arith, h, counted_length) in counted_at i l ∙ sym (get_or-table kinds_there_are f i l))

  -- ---- lengths
  reads_more : reads_of es + asks e.what ≡ reads_of (es ++ (e ∷ []))
  unfolding reads_of
  reads_more = snoc es
    where
      snoc : (xs : List Entry) → reads_of xs + asks e.what ≡ reads_of (xs ++ (e ∷ []))
      snoc [] = omega arith
      snoc (x ∷ xs) = omega (arith, snoc xs)

  one_more : added (length es) (summary_of es) e ≡ summary_of (es ++ (e ∷ []))
  unfolding added summary_of
  one_more = rw (places_more, kinds_more, reads_more) refl

-- THE UPDATE, for any number of records more
pub updated-fresh : (es more : List Entry) → updated (length es) (summary_of es) more ≡ summary_of (es ++ more)
unfolding updated
updated-fresh es [] = ap summary_of (sym (append-nil es))
updated-fresh es (e ∷ more) =
    let l : suc (length es) ≡ length (es ++ (e ∷ [])) = omega (arith, length-append es (e ∷ [])) in
    rw (one_more es e, l) (updated-fresh (es ++ (e ∷ [])) more) ∙ ap summary_of (append_snoc es e more)

-- of no records all is 0
pub of_none : index (replicate most_places 0) (replicate kinds_there_are 0) 0 ≡ summary_of []
unfolding summary_of places_of kinds_of reads_of of_kind
of_none =
    rw (zeros most_places (at []) (λ i. refl), zeros kinds_there_are (λ i. of_kind (suc i) []) none) refl
  where
    zeros : (n : ℕ) (f : ℕ → ℕ) → ((i : ℕ) → f i ≡ 0) → replicate n 0 ≡ table n f
    zeros n f h =
        ext_get_or 0 (replicate n 0) (table n f) (length-replicate n 0 ∙ sym (length-table n f))
        (λ i l. let r : length (replicate {A = ℕ} n 0) ≡ n = length-replicate n 0 in let k : i < n = omega (arith, l, r) in get_or-replicate n i 0 0 k ∙ sym (get_or-table n f i k ∙ h i))

    none : (i : ℕ) → of_kind (suc i) [] ≡ 0
    none i = refl

-- ---- the records of all kinds are all records
sum-table : (f g : ℕ → ℕ) (n : ℕ) → sum (table n (λ i. f i + g i)) ≡ sum (table n f) + sum (table n g)
unfolding table sum
sum-table f g zero = refl
sum-table f g (suc n) = omega (arith, sum-table (λ i. f (suc i)) (λ i. g (suc i)) n)

one_kind : (k : ℕ) → 1 ≤ k → k ≤ 6 → sum (table kinds_there_are (λ i. pick (eqb k (suc i)) 1 0)) ≡ 1
unfolding table sum pick
one_kind zero h l = absurd (omega (arith, h))
one_kind (suc zero) h l = refl
one_kind (suc (suc zero)) h l = refl
one_kind (suc (suc (suc zero))) h l = refl
one_kind (suc (suc (suc (suc zero)))) h l = refl
one_kind (suc (suc (suc (suc (suc zero))))) h l = refl
one_kind (suc (suc (suc (suc (suc (suc zero)))))) h l = refl
one_kind (suc (suc (suc (suc (suc (suc (suc k))))))) h l = absurd (omega (arith, l))

sum_none : (n : ℕ) → sum (table n (λ i. 0)) ≡ 0
unfolding sum table
sum_none zero = refl
sum_none (suc n) = omega (arith, sum_none n)

pub all_kinds : (es : List Entry) → sum (kinds_of es) ≡ length es
unfolding kinds_of of_kind
all_kinds [] = sum_none kinds_there_are
all_kinds (e ∷ es) =
    let six = one_of_six e.what (kind_of e.what) refl in
    let o = one_kind (kind_of e.what) six.0 six.1 in
    let s = sum-table (λ i. pick (eqb (kind_of e.what) (suc i)) 1 0) (λ i. of_kind (suc i) es) kinds_there_are in
    omega (arith, s, o, all_kinds es)

pub all_records : (es : List Entry) → records_in (summary_of es) ≡ length es
unfolding records_in summary_of
all_records es = all_kinds es

-- ---- records no bytes further on are the same
pub no_further : (es : List Entry) → map (further 0) es ≡ es
unfolding further
no_further [] = refl
no_further (e ∷ es) =
    let p : 0 + e.place ≡ e.place = omega arith in
    let q : 0 + e.next ≡ e.next = omega arith in
    rw (p, q, no_further es) refl
