-- All that is written for a journal, a clock and class fields.
use Rattle.std.specs.Prelude.{◌≡◌, ℕ, eqb, length, take, replicate}
use mathlib.Core.List.{List, [], ◌∷◌, ◌++◌, map, flatten}
use Rattle.ledger.specs.Choice.{pick}
use Rattle.journal.specs.Header.{start_of}
use Rattle.journal.specs.Walking.{ending_of}
use Rattle.transcript.specs.Lines.{end_of}
use Rattle.keeper.specs.Record.{fresh}
use Rattle.keeper.specs.Demands.{keeper_after}
use Rattle.keeper.specs.declared.Keeper.{Keeper}
use Rattle.replay.specs.Whole.{calls_of}
use Rattle.desk.specs.Sizes.{desk_bytes}
use Rattle.desk.specs.Desks.{desk_of}
use Rattle.desk.specs.Issuing.{LeftWith, issue}
use Rattle.desk.specs.Runs.{Act, asks, acts_leave}
use Rattle.desk.specs.declared.Desk.{Desk}
use Rattle.numbering.specs.Lines.{issued_line, longest_issued, IssuedWith}

-- the keeper that a journal's calls leave, and a desk that remembers nothing
abbrev pub keeper_of_journal : List ℕ → Keeper
keeper_of_journal j = keeper_after (fresh (start_of j)) (calls_of j)

abbrev pub empty_desk : Desk
empty_desk = desk_of 0 (replicate desk_bytes 0)

-- one number is asked for with each field, all at one clock
abbrev pub asking : ℕ → List (List ℕ) → List Act
asking now fields = map (asks now) fields

abbrev pub line_left : LeftWith → List ℕ
line_left x = issued_line x.issued

-- their lines, one behind another
unfoldable pub lines_for : Keeper → Desk → ℕ → List (List ℕ) → List ℕ
lines_for k d now fields = flatten (map line_left (acts_leave k d (asking now fields)))

-- THE TEXT: where the journal ends with 0, a line for each field, and the end; else the end alone, with the journal's number
unfoldable pub issue_text : List ℕ → ℕ → List (List ℕ) → List ℕ
issue_text j now fields = pick (eqb (ending_of j) 0) (lines_for (keeper_of_journal j) empty_desk now fields ++ end_of 0) (end_of (ending_of j))

-- ---- what the code gives: each field's call on the record and the desk that the one before left, and the fronts of the rooms that the lines
-- were laid in, one behind another
pub data Handed : Keeper → Desk → ℕ → List (List ℕ) → List ℕ → Type 0 where
  nothing : {k : Keeper} {d : Desk} {now : ℕ} → Handed k d now [] []
  and_then : {k k' : Keeper} {d d' : Desk} {now : ℕ} {field : List ℕ} {fields : List (List ℕ)} {room room' : List ℕ} {len : ℕ} {text : List ℕ}
      → length room ≡ longest_issued → IssuedWith (issue k d now field) k' d' room room' len → Handed k' d' now fields text
      → Handed k d now (field ∷ fields) (take len room' ++ text)
