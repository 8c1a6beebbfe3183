-- What is replayed of a journal of which only the first n bytes are left, said of the whole journal: its records that end within them, no more
-- and no fewer, on a keeper of its own start bytes.
use Rattle.std.specs.Prelude.{◌≡◌, List, ◌++◌, map, ℕ, eqb}
use Rattle.ledger.specs.Choice.{pick}
use Rattle.journal.specs.Header.{header_within, start_of}
use Rattle.journal.specs.Cutting.{walk_within}
use Rattle.transcript.specs.Lines.{end_of}
use Rattle.keeper.specs.Record.{Outcome, fresh}
use Rattle.keeper.specs.Calls.{Call}
use Rattle.keeper.specs.Demands.{outcomes, keeper_after}
use Rattle.keeper.specs.declared.Keeper.{Keeper}
use Rattle.replay.specs.Running.{call_of}
use Rattle.replay.specs.Whole.{outcomes_of, lines_of, transcript_of, replayed}

abbrev pub calls_within : ℕ → List ℕ → List Call
calls_within n j = map (call_of (header_within n j).version j) (walk_within n j).entries

abbrev pub outcomes_within : ℕ → List ℕ → List Outcome
outcomes_within n j = outcomes (fresh (start_of j)) (calls_within n j)

unfoldable pub transcript_within : ℕ → List ℕ → List ℕ
transcript_within n j = lines_of (outcomes_within n j) ++ end_of (walk_within n j).number

-- the keeper that this leaves in a record; where what is left of the header is not good, the record stays as it was
unfoldable pub replayed_within : ℕ → List ℕ → Keeper → Keeper
replayed_within n j k = pick (eqb (header_within n j).number 0) (keeper_after (fresh (start_of j)) (calls_within n j)) k

-- a journal that is saved out of another: the very lines of the other, and then the end of a journal that ends well; and the same keeper
pub record Saved (j saved : List ℕ) : Type 0 where
  pub transcript : transcript_of saved ≡ lines_of (outcomes_of j) ++ end_of 0
  pub keeper : (k : Keeper) → replayed saved k ≡ replayed j k
