-- A journal run turn by turn: what is left gives the whole; and from behind its header it gives the keeper that a replay leaves.
use mathlib.Core.Path.{◌≡◌, refl, sym, ap, ◌∙◌}
use mathlib.Core.Bool.{true, false, false≢true}
use mathlib.Core.List.{List, [], map}
use Prim.Native.Nat.{ℕ, ◌-◌, ◌≤◌, ◌<◌}
use native.Mathlib.Omega.{arith}
use borrow.Author.Tests.{eq-eqb, ne_eqb}
use lib.ListN.{length, take, drop}
use Rattle.ledger.specs.Choice.{pick}
use Rattle.ledger.specs.Sizes.{start_bytes}
use Rattle.ledger.specs.declared.Answer.{Answer}
use Rattle.journal.specs.Header.{records_begin, header_of, version_of, start_of}
use Rattle.journal.specs.Reading.{read_at}
use Rattle.journal.specs.Walking.{Walk}
use Rattle.journal.specs.Found.{Found, One, Stop, End, Heading}
use Rattle.journal.proofs.Walks.{walk_one, walk-stop, walk_end, good_walk}
use Rattle.keeper.specs.Record.{fresh}
use Rattle.keeper.specs.Demands.{keeper_after}
use Rattle.keeper.specs.declared.Keeper.{Keeper}
use Rattle.steps.specs.Promise.{left, leaves_made}
use Rattle.replay.specs.Running.{call_of}
use Rattle.replay.specs.Turns.{after, turn_of, Took, Turn}
use Rattle.replay.specs.Whole.{replayed}
use Rattle.replay.proofs.OneTurn.{ahead}
use Rattle.replay.proofs.Begun.{good, begins, made_fresh}
use Rattle.numbering.specs.Running.{ran_from}

-- ---- one turn
-- the keeper after a walk's records
abbrev ran_by : ℕ → List ℕ → Keeper → Walk → Keeper
ran_by v j k w = keeper_after k (map (call_of v j) w.entries)

module _ (v : ℕ) (j : List ℕ) (at : ℕ) (k : Keeper) where
  more_after : (x : Found) → read_at v j at ≡ x → (after v j at k x).more ≡ true → ran_from v j (after v j at k x).at (after v j at k x).keeper ≡ ran_from v j at k
  unfolding ran_from after keeper_after
  more_after (One r next) e h = sym (ap (ran_by v j k) (walk_one v j at r next e))
  more_after (Stop n) e h = absurd (false≢true h)
  more_after End e h = absurd (false≢true h)

  last_after : (x : Found) → read_at v j at ≡ x → (after v j at k x).more ≡ false → (after v j at k x).keeper ≡ ran_from v j at k
  unfolding ran_from after keeper_after
  last_after (One r next) e h = absurd (false≢true (sym h))
  last_after (Stop n) e h = sym (ap (ran_by v j k) (walk-stop v j at n e))
  last_after End e h = sym (ap (ran_by v j k) (walk_end v j at e))

-- .. as the code takes it
module _ (v : ℕ) (j : List ℕ) (at : ℕ) (k k' : Keeper) (t : Turn) (out out' line line' : List ℕ) (took : Took (turn_of v j at k) k' t out out' line line') where
  pub goes_on : t.more ≡ true → (at < t.at) × (t.at ≤ length j)
  goes_on e = let a = ahead v j at k (sym took.more ∙ e) in let p = took.at in (omega arith, omega arith)

  pub again : t.more ≡ true → ran_from v j t.at k' ≡ ran_from v j at k
  unfolding turn_of
  again e = (λ i. ran_from v j (took.at i) (took.keeper i)) ∙ more_after v j at k (read_at v j at) refl (sym took.more ∙ e)

  pub over : t.more ≡ false → k' ≡ ran_from v j at k
  unfolding turn_of
  over e = took.keeper ∙ last_after v j at k (read_at v j at) refl (sym took.more ∙ e)

-- ---- a whole journal
-- one whose header is not good leaves the record as it was
pub not_begun : (j : List ℕ) (k : Keeper) (h : Heading) → h ≡ header_of j → (h.number ≡ 0 → ⊥) → k ≡ replayed j k
unfolding replayed pick
not_begun j k h e n = rw (ne_eqb (header_of j).number 0 (λ z. n (ap (λ (x : Heading). x.number) e ∙ z))) refl

-- from behind a good header, on a keeper made of the start bytes, all records are run
behind_header : (j : List ℕ) (k : Keeper) → (header_of j).number ≡ 0 → ran_from (version_of j) j records_begin (fresh (start_of j)) ≡ replayed j k
unfolding ran_from replayed pick
behind_header j k g = rw (eq-eqb (header_of j).number 0 g) (sym (ap (ran_by (version_of j) j (fresh (start_of j))) (good_walk j g)))

module _ (j : List ℕ) (k k' : Keeper) (a : Answer) (start : List ℕ) (h : Heading) (e : h ≡ header_of j) (z : h.number ≡ 0)
    (es : start ≡ take start_bytes (drop (h.place - start_bytes) j)) (l : left k' a [] ≡ leaves_made k start) where
  pub run_whole : (k'' : Keeper) → k'' ≡ ran_from h.version j h.place k' → k'' ≡ replayed j k
  run_whole k'' r =
      let v : h.version ≡ version_of j = ap (λ (x : Heading). x.version) e in
      let p = begins j k k' a start h e z es l in
      let m = made_fresh j k k' a start h e z es l in
      r ∙ (λ i. ran_from (v i) j (p i) (m i)) ∙ behind_header j k (good j k k' a start h e z es l)
