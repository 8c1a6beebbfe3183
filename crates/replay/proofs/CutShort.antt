-- A journal that is cut anywhere: what its earlier records did stays, and nothing else is done. Its replay makes the calls of those records of
-- the whole that end within the cut, writes their lines and leaves the keeper that they leave.
use mathlib.Core.Path.{◌≡◌, refl, ap, ap₂, ◌∙◌}
use mathlib.Core.List.{List, [], ◌∷◌, ◌++◌, map}
use Prim.Native.Nat.{ℕ, zero, suc, min}
use native.Mathlib.Omega.{arith}
use borrow.Author.Tests.{eq-eqb, ne_eqb}
use lib.ListN.{length, take, length-take}
use Rattle.ledger.specs.Choice.{pick}
use Rattle.journal.specs.Header.{records_begin, header_of, version_of, start_of}
use Rattle.journal.specs.Found.{Heading}
use Rattle.journal.specs.Walking.{Entry, Walk, walk, walk_of}
use Rattle.journal.specs.Cutting.{up_to}
use Rattle.journal.proofs.Laws.{carried_cut, start_cut}
use Rattle.journal.proofs.GoodHeader.{header_good, header_cut, header_kept, version_kept}
use Rattle.journal.proofs.Walks.{along_walk, good_walk, bad_walk}
use Rattle.journal.proofs.CutWalks.{stops_ahead}
use Rattle.journal.proofs.CutJournals.{cut_entries, cut_ending, cut_first, salvaged_walk}
use Rattle.journal.proofs.Sides.{by_same}
use Rattle.transcript.specs.Lines.{end_of}
use Rattle.keeper.specs.Record.{Outcome, fresh}
use Rattle.keeper.specs.Calls.{Call}
use Rattle.keeper.specs.Narrative.{told}
use Rattle.keeper.specs.Demands.{outcomes, keeper_after}
use Rattle.keeper.specs.declared.Keeper.{Keeper}
use Rattle.replay.specs.Running.{call_with, call_of}
use Rattle.replay.specs.Whole.{calls_of, outcomes_of, lines_of, transcript_of, replayed}
use Rattle.replay.specs.Cutting.{calls_within, outcomes_within, transcript_within, replayed_within, Saved}

-- ---- records that are read of the cut journal are the same calls
same_calls : (v n : ℕ) (j : List ℕ) (at : ℕ) → map (call_of v (take n j)) (walk v (take n j) at).entries ≡ map (call_of v j) (walk v (take n j) at).entries
same_calls v n j =
    along_walk v (take n j) (λ at w. map (call_of v (take n j)) w.entries ≡ map (call_of v j) w.entries)
    (λ at r next e on. ap₂ (λ (bs : List ℕ) (cs : List Call). call_with v bs r ∷ cs) (carried_cut v n j at r next e) on)
    (λ at m. refl)

-- by the header: where it is not good there is no record
if_good : (j : List ℕ) (P : Type 0) → ((header_of j).number ≡ 0 → P) → (((header_of j).number ≡ 0 → ⊥) → (walk_of j).entries ≡ [] → P) → P
if_good j P good bad = by_same (header_of j).number 0 good (λ h. bad h (ap (λ (w : Walk). w.entries) (bad_walk j h)))

module _ (n : ℕ) (j : List ℕ) where
  -- what is left is replayed as records of the whole journal, in the version that it says itself
  abbrev own : Entry → Call
  own = call_of (version_of (take n j)) j

  own_calls : calls_of (take n j) ≡ map own (walk_of (take n j)).entries
  own_calls =
      if_good (take n j) (calls_of (take n j) ≡ map own (walk_of (take n j)).entries)
      (λ h. rw (good_walk (take n j) h) (same_calls (version_of (take n j)) n j records_begin))
      (λ h z. rw z refl)

  own_outcomes : outcomes_of (take n j) ≡ outcomes (fresh (start_of j)) (map own (walk_of (take n j)).entries)
  unfolding outcomes
  own_outcomes =
      if_good (take n j) (outcomes_of (take n j) ≡ outcomes (fresh (start_of j)) (map own (walk_of (take n j)).entries))
      (λ h. ap₂ (λ (s : List ℕ) (cs : List Call). outcomes (fresh s) cs) (start_cut n j h) own_calls)
      (λ h z. rw z refl)

  -- where the whole journal's header is good, in its version
  as_whole : (header_of j).number ≡ 0 → map own (walk_of (take n j)).entries ≡ map (call_of (version_of j) j) (walk_of (take n j)).entries
  as_whole good =
      if_good (take n j) (map own (walk_of (take n j)).entries ≡ map (call_of (version_of j) j) (walk_of (take n j)).entries)
      (λ h. ap (λ (v : ℕ). map (call_of v j) (walk_of (take n j)).entries) (version_kept n j (omega (arith, (header_good (take n j) h).there, length-take n j)) good))
      (λ h z. rw z refl)

  -- THE CALLS
  pub cut_calls : calls_of (take n j) ≡ calls_within (min n (length j)) j
  cut_calls = own_calls ∙ ap₂ (λ (v : ℕ) (es : List Entry). map (call_of v j) es) (ap (λ (h : Heading). h.version) (header_cut n j)) (cut_entries n j)

  -- THE OUTCOMES
  pub cut_outcomes : outcomes_of (take n j) ≡ outcomes_within (min n (length j)) j
  cut_outcomes =
      own_outcomes ∙ ap₂ (λ (v : ℕ) (es : List Entry). outcomes (fresh (start_of j)) (map (call_of v j) es)) (ap (λ (h : Heading). h.version) (header_cut n j)) (cut_entries n j)

  -- THE TRANSCRIPT
  pub cut_transcript : transcript_of (take n j) ≡ transcript_within (min n (length j)) j
  unfolding transcript_of transcript_within
  cut_transcript = ap₂ (λ (os : List Outcome) (m : ℕ). lines_of os ++ end_of m) cut_outcomes (cut_ending n j)

  -- THE KEEPER
  pub cut_keeper : (k : Keeper) → replayed (take n j) k ≡ replayed_within (min n (length j)) j k
  unfolding replayed replayed_within pick
  cut_keeper k =
      if_good (take n j) (replayed (take n j) k ≡ replayed_within (min n (length j)) j k)
      (λ h. let z = eq-eqb (header_of (take n j)).number 0 h in
      rw (← header_cut n j, z) (ap₂ (λ (s : List ℕ) (cs : List Call). keeper_after (fresh s) cs) (start_cut n j h) (own_calls ∙ ap (map own) (cut_entries n j))))
      (λ h _. let z = ne_eqb (header_of (take n j)).number 0 h in rw (← header_cut n j, z) refl)

-- ---- of a journal with a good header: the first outcomes, as many as records end within the cut
pub first_outcomes : (k : Keeper) (m : ℕ) (cs : List Call) → outcomes k (take m cs) ≡ take m (outcomes k cs)
unfolding outcomes
first_outcomes k zero cs = refl
first_outcomes k (suc m) [] = refl
first_outcomes k (suc m) (c ∷ cs) = ap (λ (os : List Outcome). told k c ∷ os) (first_outcomes (told k c).keeper m cs)

-- the first of what is made of each
pub map-take : {A B : Type 0} (f : A → B) (m : ℕ) (l : List A) → map f (take m l) ≡ take m (map f l)
map-take f zero l = refl
map-take f (suc m) [] = refl
map-take f (suc m) (x ∷ l) = ap (λ ys. f x ∷ ys) (map-take f m l)

-- WHAT EARLIER RECORDS DID STAYS
pub cut_keeps : (n : ℕ) (j : List ℕ) → (header_of j).number ≡ 0 → outcomes_of (take n j) ≡ take (length (up_to n (walk_of j).entries)) (outcomes_of j)
cut_keeps n j good =
    let m = length (up_to n (walk_of j).entries) in
    let k = fresh (start_of j) in
    own_outcomes n j ∙ ap (outcomes k) (as_whole n j good)
    ∙ ap (λ (es : List Entry). outcomes k (map (call_of (version_of j) j) es)) (cut_first n j good)
    ∙ ap (outcomes k) (map-take (call_of (version_of j) j) m (walk_of j).entries)
    ∙ first_outcomes k m (calls_of j)

-- ---- cut where its walk stops
module _ (j : List ℕ) (good : (header_of j).number ≡ 0) where
  abbrev saved : List ℕ
  saved = take (walk_of j).stop j

  saved_entries : (walk_of saved).entries ≡ (walk_of j).entries
  saved_entries = ap (λ (w : Walk). w.entries) (salvaged_walk j good)

  saved_good : (header_of saved).number ≡ 0
  saved_good = header_kept (walk_of j).stop j (rw (good_walk j good) (stops_ahead (version_of j) j records_begin)) good

  saved_calls : map (own (walk_of j).stop j) (walk_of saved).entries ≡ calls_of j
  saved_calls = as_whole (walk_of j).stop j good ∙ ap (map (call_of (version_of j) j)) saved_entries

  saved_transcript : transcript_of saved ≡ lines_of (outcomes_of j) ++ end_of 0
  unfolding transcript_of
  saved_transcript =
      ap₂ (λ (os : List Outcome) (m : ℕ). lines_of os ++ end_of m)
      (own_outcomes (walk_of j).stop j ∙ ap (outcomes (fresh (start_of j))) saved_calls)
      (ap (λ (w : Walk). w.number) (salvaged_walk j good))

  saved_keeper : (k : Keeper) → replayed saved k ≡ replayed j k
  unfolding replayed pick
  saved_keeper k =
      rw (eq-eqb (header_of saved).number 0 saved_good, eq-eqb (header_of j).number 0 good)
      (ap₂ (λ (s : List ℕ) (cs : List Call). keeper_after (fresh s) cs) (start_cut (walk_of j).stop j saved_good)
      (own_calls (walk_of j).stop j ∙ saved_calls))

  -- SALVAGE: nothing is lost of a journal with a good header that is cut where its walk stops
  pub salvaged : Saved j (take (walk_of j).stop j)
  salvaged = record { transcript = saved_transcript; keeper = saved_keeper }
