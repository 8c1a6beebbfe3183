-- One pass over a journal works its index out.
use mathlib.Core.Path.{◌≡◌, refl, sym, ap, ap₂, ◌∙◌}
use mathlib.Core.List.{List, [], map}
use Prim.Native.Nat.{ℕ, ◌+◌, ◌≤◌, ◌<◌}
use native.Mathlib.Omega.{arith}
use borrow.Author.Tests.{ne_eqb, lt-ltb, le-ltb}
use lib.ListN.{length, get_or, take, replicate, get_or-replicate, length-replicate, get_or-eq_default}
use lib.Seq.{length-take-le}
use Rattle.std.specs.Prelude.{Result, Ok, Err}
use Rattle.std.specs.Result.{result_unwrap_or}
use Rattle.ledger.specs.Choice.{pick}
use Rattle.ledger.specs.declared.refusals.Refusal.{Refusal}
use Rattle.ledger.specs.Numbers.{journal_too_large}
use Rattle.journal.specs.Header.{largest, records_begin, header_of}
use Rattle.journal.specs.Walking.{Walk, walk, walk_of, ending_of}
use Rattle.journal.specs.Writing.{further}
use Rattle.journal.specs.Found.{Heading}
use Rattle.journal.proofs.Sides.{by_less}
use Rattle.journal.proofs.GoodHeader.{header_good, heading_good}
use Rattle.journal.proofs.Walks.{good_walk}
use Rattle.index.specs.Summary.{most_places, kinds_there_are, index, summary_of, index_of, records_in, updated}
use Rattle.index.specs.Room.{Roomy}
use Rattle.index.specs.Calls.{fresh_of, fresh_in, worked_out}
use Rattle.index.specs.declared.summary.Index.{Index}
use Rattle.index.specs.declared.fresh.Fresh.{Fresh}
use Rattle.index.proofs.Updating.{updated-fresh, of_none, no_further, all_records}

abbrev pub fresh : ℕ → Index → Fresh
fresh n ix = record { number = n; index = ix }

abbrev number : Heading → ℕ
number h = h.number

abbrev ending : Walk → ℕ
ending w = w.number

zeros_few : (n i : ℕ) → get_or (replicate {A = ℕ} n 0) i 0 ≤ 0
zeros_few n i =
    let zeros : List ℕ = replicate n 0 in
    by_less i n
    (λ h. let e : get_or zeros i 0 ≡ 0 = get_or-replicate n i 0 0 h in omega (arith, e))
    (λ h. let l : length zeros ≡ n = length-replicate n 0 in
    let e : get_or zeros i 0 ≡ 0 = get_or-eq_default zeros 0 (omega (arith, h, l)) in omega (arith, e))

module _ (j : List ℕ) where
  -- a journal that ends with another number than 0 has no index
  pub fresh_bad : (n : ℕ) → n ≡ ending_of j → (n ≡ 0 → ⊥) → fresh n (summary_of []) ≡ fresh_of j
  unfolding fresh_of pick
  fresh_bad n e h = rw (← e, ne_eqb n 0 h) refl

  pub fresh_good : ending_of j ≡ 0 → fresh 0 (index_of j) ≡ fresh_of j
  unfolding fresh_of pick
  fresh_good e = rw e refl

  module _ (h : Heading) (e : h ≡ header_of j) (z : h.number ≡ 0) where
    good : (header_of j).number ≡ 0
    good = sym (ap number e) ∙ z

    begins : h.place ≡ records_begin
    begins = ap (λ (x : Heading). x.place) (e ∙ heading_good j good)

    -- from behind the header on
    begun : walk h.version j h.place ≡ walk_of j
    begun = ap (λ (x : Heading). walk x.version j x.place) (e ∙ heading_good j good) ∙ sym (good_walk j good)

    pub there : (h.place ≤ length j) × (0 + length j ≤ largest)
    there = let g = header_good j good in (omega (arith, begins, g.there), omega (arith, g.fits))

    pub nothing_yet : Roomy 0 (0 + h.place) (replicate kinds_there_are 0) 0
    nothing_yet = record { short = omega (arith, begins); few = zeros_few kinds_there_are; narrow = omega arith }

    pub walked_bad : (n : ℕ) → n ≡ (walk h.version j h.place).number → (n ≡ 0 → ⊥) → fresh n (summary_of []) ≡ fresh_of j
    walked_bad n w k = fresh_bad n (w ∙ ap ending begun) k

    module _ (n : ℕ) (w : n ≡ (walk h.version j h.place).number) (k : n ≡ 0) (ix : Index)
        (u : ix ≡ updated 0 (index (replicate most_places 0) (replicate kinds_there_are 0) 0) (map (further 0) (walk h.version j h.place).entries)) where
      is_fresh : ix ≡ summary_of (walk_of j).entries
      is_fresh =
          u ∙ ap₂ (λ (x : Index) (es : _). updated 0 x es) of_none (no_further (walk h.version j h.place).entries ∙ ap (λ (x : Walk). x.entries) begun) ∙ updated-fresh [] (walk_of j).entries

      pub walked_good : fresh 0 ix ≡ fresh_of j
      unfolding index_of
      walked_good = ap (fresh 0) is_fresh ∙ fresh_good (sym (ap ending begun) ∙ sym w ∙ k)

      pub still_roomy : (count : ℕ) → count ≡ 0 + length (walk h.version j h.place).entries → Roomy count (0 + length j) ix.kinds ix.reads
          → Roomy (records_in ix) (length j) ix.kinds ix.reads
      still_roomy count c r =
          let a = all_records (walk_of j).entries in
          let b : records_in ix ≡ length (walk_of j).entries = ap records_in is_fresh ∙ a in
          let d : length (walk h.version j h.place).entries ≡ length (walk_of j).entries = ap (λ (x : Walk). length x.entries) begun in
          let m : records_in ix ≡ count = omega (arith, b, c, d) in
          rw m (record { short = omega (arith, r.short); few = r.few; narrow = r.narrow })

-- ---- in a room
pub in_room : (room : List ℕ) (n : ℕ) → n ≤ largest → fresh_in room n ≡ fresh_of (take n room)
unfolding fresh_in pick
in_room room n h = rw (le-ltb largest n h) refl

pub past_room : (room : List ℕ) (n : ℕ) → largest < n → fresh journal_too_large (summary_of []) ≡ fresh_in room n
unfolding fresh_in pick
past_room room n h = rw (lt-ltb largest n h) refl

pub roomy_in : (room : List ℕ) (n : ℕ) → n ≤ length room → {count reads : ℕ} {kinds : List ℕ} → Roomy count (length (take n room)) kinds reads → Roomy count n kinds reads
roomy_in room n h r = record { short = omega (arith, r.short, length-take-le n room h); few = r.few; narrow = r.narrow }

-- the index of a journal that has none is an index of nothing
pub index_or_none : (found : Result Index Refusal) (f : Fresh) → worked_out found ≡ f → (ix : Index) → ix ≡ result_unwrap_or found (index (replicate most_places 0) (replicate kinds_there_are 0) 0) → ix ≡ f.index
index_or_none (Ok it) f e ix q = q ∙ ap (λ (x : Fresh). x.index) e
index_or_none (Err why) f e ix q = q ∙ (of_none ∙ ap (λ (x : Fresh). x.index) e)
