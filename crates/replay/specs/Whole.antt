-- The whole replay of a journal: its transcript, the keeper that it leaves, what turns write one after another, and what of it the public
-- fields decide.
use Rattle.std.specs.Prelude.{List, [], ◌∷◌, ◌++◌, map, ℕ, zero, suc, ◌-◌, eqb}
use Rattle.ledger.specs.Choice.{pick}
use Rattle.journal.specs.Header.{header_of, version_of, start_of}
use Rattle.journal.specs.Walking.{walk_of, ending_of}
use Rattle.transcript.specs.Lines.{end_of}
use Rattle.keeper.specs.Record.{Outcome, fresh}
use Rattle.keeper.specs.Calls.{Call}
use Rattle.keeper.specs.Demands.{outcomes, keeper_after}
use Rattle.keeper.specs.declared.Keeper.{Keeper}
use Rattle.replay.specs.Running.{call_of, line_for}
use Rattle.replay.specs.Turns.{turn_of}

-- the calls of a journal: one for each whole record, up to what ends the replay
abbrev pub calls_of : List ℕ → List Call
calls_of j = map (call_of (version_of j) j) (walk_of j).entries

-- what comes of them, on a fresh keeper of the journal's start bytes
abbrev pub outcomes_of : List ℕ → List Outcome
outcomes_of j = outcomes (fresh (start_of j)) (calls_of j)

-- a line for each
unfoldable pub lines_of : List Outcome → List ℕ
lines_of [] = []
lines_of (o ∷ os) = line_for o ++ lines_of os

-- the transcript: the lines, and the end
unfoldable pub transcript_of : List ℕ → List ℕ
transcript_of j = lines_of (outcomes_of j) ++ end_of (ending_of j)

-- the keeper that a replay leaves in a record; where the header is not good, the record stays as it was
unfoldable pub replayed : List ℕ → Keeper → Keeper
replayed j k = pick (eqb (header_of j).number 0) (keeper_after (fresh (start_of j)) (calls_of j)) k

-- what n turns write in a version, stopping where a turn says that there is no more
unfoldable pub turns_write : ℕ → ℕ → List ℕ → ℕ → Keeper → List ℕ
turns_write zero v j at k = []
turns_write (suc n) v j at k =
    let a = turn_of v j at k in a.line ++ pick a.more (turns_write n v j a.at a.keeper) []

-- ---- a transcript with the hex blotted out, and all else as it is. Between a line's seven numbers stand six spaces: the seventh opens
-- the hex
-- how many spaces of its line are still to come, behind a byte: seven at the line's start, none in the hex
unfoldable pub spaces_left : ℕ → ℕ → ℕ
spaces_left n b = pick (eqb b 10) 7 (pick (eqb b 32) (n - 1) n)

-- a byte, or `*` in the hex
unfoldable pub blot : ℕ → ℕ → ℕ
blot zero b = 42
blot (suc n) b = b

unfoldable pub blotted_from : ℕ → List ℕ → List ℕ
blotted_from n [] = []
blotted_from n (b ∷ text) = let left = spaces_left n b in blot left b ∷ blotted_from left text

abbrev pub blotted : List ℕ → List ℕ
blotted text = blotted_from 7 text
