-- One turn of a replay, in a version: what stands at a position is run, and a line is written; or the replay ends, with the last line.
use Rattle.std.specs.Prelude.{Bool, true, false, ◌≡◌, List, [], ◌++◌, ℕ, length, drop, Option, Some, None}
use Rattle.journal.specs.Reading.{read_at}
use Rattle.journal.specs.Walking.{entry}
use Rattle.journal.specs.Found.{Found, One, Stop, End}
use Rattle.transcript.specs.Lines.{end_of}
use Rattle.keeper.specs.Record.{room_after}
use Rattle.keeper.specs.Narrative.{told}
use Rattle.keeper.specs.declared.Keeper.{Keeper}
use Rattle.replay.specs.Running.{call_of, line_for}

-- what a turn leaves: the keeper, the position, whether there is more, the bytes handed out, and the line
pub record After : Type 0 where
  pub keeper : Keeper
  pub at : ℕ
  pub more : Bool
  pub bytes : List ℕ
  pub line : List ℕ

-- a record is run; what ends the replay has no line of its own and leaves the keeper alone
unfoldable pub after : ℕ → List ℕ → ℕ → Keeper → Found → After
after v j at k (One r next) =
    let o = told k (call_of v j (entry at r next)) in
    record { keeper = o.keeper; at = next; more = true; bytes = o.bytes; line = line_for o }
after v j at k (Stop n) = record { keeper = k; at = at; more = false; bytes = []; line = end_of n }
after v j at k End = record { keeper = k; at = at; more = false; bytes = []; line = end_of 0 }

unfoldable pub turn_of : ℕ → List ℕ → ℕ → Keeper → After
turn_of v j at k = after v j at k (read_at v j at)

-- what is told of a turn: the position after it, whether there is more, and the length of its line
pub record Turn : Type 0 where
  pub at : ℕ
  pub more : Bool
  pub count : ℕ

-- the same as the code tells it, of a turn at a position: the position after it, where there is more; else that position stays
abbrev pub place_after : ℕ → Option ℕ → ℕ
place_after at (Some next) = next
place_after at None = at

abbrev pub is_more : Option ℕ → Bool
is_more (Some _) = true
is_more None = false

abbrev pub told_at : ℕ → Option ℕ → ℕ → Turn
told_at at next n = record { at = place_after at next; more = is_more next; count = n }

-- what the code hands back of a turn, and what then stands in the two rooms that it is lent
pub record Took (a : After) (k : Keeper) (t : Turn) (bytes bytes' room room' : List ℕ) : Type 0 where
  pub keeper : k ≡ a.keeper
  pub at : t.at ≡ a.at
  pub more : t.more ≡ a.more
  pub count : t.count ≡ length a.line
  pub handed : bytes' ≡ room_after bytes a.bytes
  pub written : room' ≡ a.line ++ drop (length a.line) room
