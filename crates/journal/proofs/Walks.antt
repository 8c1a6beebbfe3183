-- Going record by record: what holds wherever nothing follows, and of a position if of the next, holds everywhere.
use mathlib.Core.Path.{◌≡◌, refl, sym, ap, ◌∙◌}
use mathlib.Core.List.{List}
use Prim.Native.Nat.{ℕ, zero, suc, ◌+◌, ◌≤◌, ◌<◌}
use native.Mathlib.Omega.{arith}
use borrow.Author.Tests.{ne_eqb}
use lib.ListN.{length}
use Rattle.ledger.specs.Choice.{pick}
use Rattle.journal.specs.Reading.{read_at}
use Rattle.journal.specs.Header.{records_begin, header_of, version_of}
use Rattle.journal.specs.Walking.{entry, Walk, onto, halt, step, walk_from, walk, behind, walk_of, ending_of}
use Rattle.journal.specs.Found.{Found, One, Stop, End, Heading}
use Rattle.journal.specs.declared.records.Record.{Record}
use Rattle.journal.proofs.Cut.{past}
use Rattle.journal.proofs.Onward.{read_ahead}
use Rattle.journal.proofs.GoodHeader.{heading_good}

-- THE INDUCTION over a walk
module _ (v : ℕ) (j : List ℕ) (P : ℕ → Type 0)
    (one : (at : ℕ) (r : Record) (next : ℕ) → read_at v j at ≡ One r next → P next → P at)
    (stop : (at n : ℕ) → read_at v j at ≡ Stop n → P at)
    (over : (at : ℕ) → read_at v j at ≡ End → P at) where
  by_what : (at : ℕ) (x : Found) → read_at v j at ≡ x → ((next : ℕ) → at < next → P next) → P at
  by_what at (One r next) e on = one at r next e (on next (read_ahead v j at r next e).0)
  by_what at (Stop n) e on = stop at n e
  by_what at End e on = over at e

  within : (f at : ℕ) → length j ≤ at + f → P at
  within zero at h = over at (past v j at (omega arith))
  within (suc f) at h = by_what at (read_at v j at) refl (λ next l. within f next (omega (arith, l, h)))

  pub along : (at : ℕ) → P at
  along at = within (length j) at (omega arith)

step_same : (at : ℕ) (x : Found) (g h : ℕ → Walk) → ((r : Record) (next : ℕ) → x ≡ One r next → g next ≡ h next) → step at x g ≡ step at x h
step_same at (One r next) g h e = ap (onto (entry at r next)) (e r next refl)
step_same at (Stop n) g h e = refl
step_same at End g h e = refl

-- more turns than bytes add nothing
steady : (f v : ℕ) (j : List ℕ) (at : ℕ) → length j ≤ at + f → walk_from (suc f) v j at ≡ walk_from f v j at
unfolding walk_from
steady zero v j at h = rw (past v j at (omega arith)) refl
steady (suc f) v j at h =
    step_same at (read_at v j at) (walk_from (suc f) v j) (walk_from f v j) (λ r next e. steady f v j next (omega (arith, h, (read_ahead v j at r next e).0)))

-- A WALK is what stands there, and the walk from behind it
pub unroll : (v : ℕ) (j : List ℕ) (at : ℕ) → walk v j at ≡ step at (read_at v j at) (walk v j)
unfolding walk walk_from
unroll v j at = sym (steady (length j) v j at (omega arith))

module _ (v : ℕ) (j : List ℕ) (at : ℕ) where
  pub walk_one : (r : Record) (next : ℕ) → read_at v j at ≡ One r next → walk v j at ≡ onto (entry at r next) (walk v j next)
  walk_one r next e = unroll v j at ∙ ap (λ (x : Found). step at x (walk v j)) e

  pub walk-stop : (n : ℕ) → read_at v j at ≡ Stop n → walk v j at ≡ halt at n
  walk-stop n e = unroll v j at ∙ ap (λ (x : Found). step at x (walk v j)) e

  pub walk_end : read_at v j at ≡ End → walk v j at ≡ halt at 0
  walk_end e = unroll v j at ∙ ap (λ (x : Found). step at x (walk v j)) e

-- so what holds of a walk that stands still, and behind a record wherever of the walk from there, holds of every walk
module _ (v : ℕ) (j : List ℕ) (P : ℕ → Walk → Type 0)
    (one : (at : ℕ) (r : Record) (next : ℕ) → read_at v j at ≡ One r next → P next (walk v j next) → P at (onto (entry at r next) (walk v j next)))
    (still : (at n : ℕ) → P at (halt at n)) where
  pub along_walk : (at : ℕ) → P at (walk v j at)
  along_walk =
      along v j (λ at. P at (walk v j at))
      (λ at r next e on. rw (walk_one v j at r next e) (one at r next e on))
      (λ at n e. rw (walk-stop v j at n e) (still at n))
      (λ at e. rw (walk_end v j at e) (still at 0))

-- ---- a whole journal
module _ (j : List ℕ) where
  pub good_walk : (header_of j).number ≡ 0 → walk_of j ≡ walk (version_of j) j records_begin
  unfolding walk_of behind pick
  good_walk h = rw (heading_good j h) refl

  pub bad_walk : ((header_of j).number ≡ 0 → ⊥) → walk_of j ≡ halt 0 (header_of j).number
  unfolding walk_of behind pick
  bad_walk h = rw (ne_eqb (header_of j).number 0 h) refl

abbrev number : Heading → ℕ
number h = h.number

abbrev ending : Walk → ℕ
ending w = w.number

-- ---- the number that ends a journal, by the header that was found and record by record
module _ (j : List ℕ) (h : Heading) (e : h ≡ header_of j) where
  pub refused : (h.number ≡ 0 → ⊥) → h.number ≡ ending_of j
  refused n = ap number e ∙ sym (ap ending (bad_walk j (λ z. n (ap number e ∙ z))))

  pub begun : h.number ≡ 0 → (walk h.version j h.place).number ≡ ending_of j
  begun z =
      let g : (header_of j).number ≡ 0 = sym (ap number e) ∙ z in
      ap (λ (x : Heading). (walk x.version j x.place).number) (e ∙ heading_good j g) ∙ sym (ap ending (good_walk j g))

module _ (v : ℕ) (j : List ℕ) (at : ℕ) (left : (walk v j at).number ≡ ending_of j) where
  pub past_one : (r : Record) (next : ℕ) → read_at v j at ≡ One r next → (walk v j next).number ≡ ending_of j
  past_one r next e = sym (ap ending (walk_one v j at r next e)) ∙ left

  pub at-stop : (n : ℕ) → read_at v j at ≡ Stop n → n ≡ ending_of j
  at-stop n e = sym (ap ending (walk-stop v j at n e)) ∙ left

  pub at_end : read_at v j at ≡ End → 0 ≡ ending_of j
  at_end e = sym (ap ending (walk_end v j at e)) ∙ left
