-- The lines that turns write, one after another, are the whole transcript; and it ends with the number that a scan of the bytes alone gives,
-- whatever the keeper is.
use mathlib.Core.Path.{◌≡◌, refl, sym, ap, ◌∙◌}
use mathlib.Core.List.{List, ◌++◌, map, append_assoc, append-nil}
use Prim.Native.Nat.{ℕ, zero, suc, ◌+◌, ◌<◌}
use native.Mathlib.Omega.{arith}
use lib.ListN.{length}
use Rattle.ledger.specs.Choice.{pick}
use Rattle.journal.specs.Reading.{read_at}
use Rattle.journal.specs.Header.{records_begin, header_of, version_of, start_of}
use Rattle.journal.specs.Walking.{entry, Walk, walk}
use Rattle.journal.specs.Found.{Found, One, Stop, End}
use Rattle.journal.proofs.Cut.{past}
use Rattle.journal.proofs.Onward.{read_ahead}
use Rattle.journal.proofs.Walks.{walk_one, walk-stop, walk_end, good_walk, bad_walk}
use Rattle.transcript.specs.Lines.{end_of}
use Rattle.keeper.specs.Record.{fresh}
use Rattle.keeper.specs.Narrative.{told}
use Rattle.keeper.specs.Demands.{outcomes}
use Rattle.keeper.specs.declared.Keeper.{Keeper}
use Rattle.replay.specs.Running.{call_of, line_for}
use Rattle.replay.specs.Turns.{after, turn_of}
use Rattle.replay.specs.Whole.{lines_of, transcript_of, turns_write}

-- what a walk's records write on a keeper, and its number
abbrev told_by : ℕ → List ℕ → Keeper → Walk → List ℕ
told_by v j k w = lines_of (outcomes k (map (call_of v j) w.entries)) ++ end_of w.number

module _ (v : ℕ) (j : List ℕ) where
  -- by what stands at the position
  by : (f at : ℕ) (k : Keeper) → ((next : ℕ) (k' : Keeper) → at < next → turns_write f v j next k' ≡ told_by v j k' (walk v j next))
      → (x : Found) → read_at v j at ≡ x → turns_write (suc f) v j at k ≡ told_by v j k (walk v j at)
  unfolding turns_write lines_of outcomes turn_of after pick
  by f at k on (One r next) e =
      let o = told k (call_of v j (entry at r next)) in
      rw (e, walk_one v j at r next e) (ap (λ (l : List ℕ). line_for o ++ l) (on next o.keeper (read_ahead v j at r next e).0) ∙ sym (append_assoc (line_for o) _ _))
  by f at k on (Stop n) e = rw (e, walk-stop v j at n e) (append-nil _)
  by f at k on End e = rw (e, walk_end v j at e) (append-nil _)

  all_turns : (f at : ℕ) (k : Keeper) → length j < at + f → turns_write (suc f) v j at k ≡ told_by v j k (walk v j at)
  unfolding turns_write lines_of outcomes turn_of after pick
  all_turns zero at k h = let e = past v j at (omega (arith, h)) in rw (e, walk_end v j at e) (append-nil _)
  all_turns (suc f) at k h = by (suc f) at k (λ next k' l. all_turns f next k' (omega (arith, h, l))) (read_at v j at) refl

-- THE TRANSCRIPT of a journal with a good header is what turns write from behind it in its version, on a fresh keeper of its start bytes; a turn
-- more than the journal has bytes is enough
pub transcribed : (j : List ℕ) → (header_of j).number ≡ 0 → turns_write (suc (length j)) (version_of j) j records_begin (fresh (start_of j)) ≡ transcript_of j
unfolding transcript_of
transcribed j h =
    all_turns (version_of j) j (length j) records_begin (fresh (start_of j)) (omega arith) ∙ sym (ap (told_by (version_of j) j (fresh (start_of j))) (good_walk j h))

-- of any other it is the last line alone
pub untranscribed : (j : List ℕ) → ((header_of j).number ≡ 0 → ⊥) → transcript_of j ≡ end_of (header_of j).number
unfolding transcript_of lines_of outcomes
untranscribed j h = ap (told_by (version_of j) j (fresh (start_of j))) (bad_walk j h)
