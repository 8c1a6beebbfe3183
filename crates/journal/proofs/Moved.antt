-- What stands before a position has no say in what stands from there on: a walk behind other bytes is the same walk, further on.
use mathlib.Core.Path.{◌≡◌, refl, sym, ap, ◌∙◌}
use mathlib.Core.Bool.{Bool, true, false}
use mathlib.Core.List.{List, [], ◌∷◌, ◌++◌}
use Prim.Native.Nat.{ℕ, ◌+◌, ◌-◌, ◌≤◌}
use native.Mathlib.Omega.{arith}
use lib.Dec.{ltb, eqb}
use lib.ListN.{length, drop}
use lib.Seq.{drop-append-add}
use Rattle.ledger.specs.Choice.{pick}
use Rattle.ledger.specs.Sizes.{longest}
use Rattle.ledger.specs.Numbers.{too_long, cut_short, unknown_kind}
use Rattle.journal.specs.Layout.{widths, sum, record_of, carries}
use Rattle.journal.specs.Reading.{fields_in, carrying, opened, front, read_at}
use Rattle.journal.specs.Header.{largest, version_of}
use Rattle.journal.specs.Walking.{entry, onto, walk, walk_of, ending_of}
use Rattle.journal.specs.Writing.{joined, further, further_on}
use Rattle.journal.specs.declared.records.Record.{Record}
use Rattle.journal.specs.Found.{Found, One, Stop, End}
use Rattle.journal.proofs.Walks.{along, walk_one, walk-stop, walk_end}
use Rattle.journal.proofs.Appended.{append_journal}

-- what is found, with its position so many bytes further on
unfoldable moved : ℕ → Found → Found
moved k (One r next) = One r (k + next)
moved k (Stop n) = Stop n
moved k End = End

tests : (k s n : ℕ) (r : Record) (a b c d : Bool)
    → pick a (Stop unknown_kind) (pick b (Stop cut_short) (pick c (Stop too_long) (pick d (Stop cut_short) (One r (k + s + n)))))
    ≡ moved k (pick a (Stop unknown_kind) (pick b (Stop cut_short) (pick c (Stop too_long) (pick d (Stop cut_short) (One r (s + n))))))
unfolding pick moved
tests k s n r true b c d = refl
tests k s n r false true c d = refl
tests k s n r false false true d = refl
tests k s n r false false false true = refl
tests k s n r false false false false = let e : k + s + n ≡ k + (s + n) = omega arith in ap (One r) e

opened-moved : (k v kind s : ℕ) (bs : List ℕ) → opened v kind (k + s) bs ≡ moved k (opened v kind s bs)
unfolding opened carrying
opened-moved k v kind s bs =
    let ws = widths v kind in
    let r = record_of kind (fields_in ws bs) in
    let e : k + s + sum ws ≡ k + (s + sum ws) = omega arith in
    rw e (tests k (s + sum ws) (carries r) r (eqb (length ws) 0) (ltb (length bs) (sum ws)) (ltb longest (carries r)) (ltb (length bs - sum ws) (carries r)))

front-moved : (k v at : ℕ) (bs : List ℕ) → front v (k + at) bs ≡ moved k (front v at bs)
unfolding front moved
front-moved k v at [] = refl
front-moved k v at (kind ∷ bs) = let e : k + at + 1 ≡ k + (at + 1) = omega arith in ap (λ (s : ℕ). opened v kind s bs) e ∙ opened-moved k v kind (at + 1) bs

module _ (v : ℕ) (xs ys : List ℕ) where
  read-moved : (at : ℕ) → read_at v (xs ++ ys) (length xs + at) ≡ moved (length xs) (read_at v ys at)
  unfolding read_at
  read-moved at = ap (front v (length xs + at)) (drop-append-add xs ys at) ∙ front-moved (length xs) v at (drop at ys)

  -- A WALK BEHIND OTHER BYTES
  pub walk-moved : (at : ℕ) → walk v (xs ++ ys) (length xs + at) ≡ further_on (length xs) (walk v ys at)
  unfolding further moved
  walk-moved =
      along v ys (λ at. walk v (xs ++ ys) (length xs + at) ≡ further_on (length xs) (walk v ys at))
      (λ at r next e on.
      walk_one v (xs ++ ys) (length xs + at) r (length xs + next) (read-moved at ∙ ap (moved (length xs)) e)
      ∙ ap (onto (entry (length xs + at) r (length xs + next))) on
      ∙ sym (ap (further_on (length xs)) (walk_one v ys at r next e)))
      (λ at n e. walk-stop v (xs ++ ys) (length xs + at) n (read-moved at ∙ ap (moved (length xs)) e) ∙ sym (ap (further_on (length xs)) (walk-stop v ys at n e)))
      (λ at e. walk_end v (xs ++ ys) (length xs + at) (read-moved at ∙ ap (moved (length xs)) e) ∙ sym (ap (further_on (length xs)) (walk_end v ys at e)))

-- WHAT IS APPENDED to a journal that ends with 0 is walked by itself: the records are the old ones and the new, and the number is the new ones'
pub appended_alone : (j more : List ℕ) → ending_of j ≡ 0 → length (j ++ more) ≤ largest → walk_of (j ++ more) ≡ joined (walk_of j) (further_on (length j) (walk (version_of j) more 0))
appended_alone j more e l =
    let m : length j + 0 ≡ length j = omega arith in
    append_journal j more e l ∙ ap (joined (walk_of j)) (rw m at (walk-moved (version_of j) j more 0))
