-- A record made a keeper and a zeroed desk, and calls made on both one after another: what the code leaves of them.
use Rattle.std.specs.Prelude.{◌≡◌, List, [], ◌∷◌, ℕ}
use Rattle.keeper.specs.Calls.{Call}
use Rattle.keeper.specs.declared.Keeper.{Keeper}
use Rattle.steps.specs.Promise.{Left, leaves, leaves_made}
use Rattle.desk.specs.Desks.{desk_of}
use Rattle.desk.specs.Issuing.{LeftWith, left_with, issue}
use Rattle.desk.specs.Runs.{Act, calls, asks}
use Rattle.desk.specs.declared.Desk.{Desk}

-- a keeper's call, which is not lent the desk
abbrev pub beside : Desk → Left → LeftWith
beside d x = left_with x.keeper d (record { answer = x.answer; number = [] })

-- what the calls left: each is what its contract says, on the record and the desk that the one before left, whatever room was lent
pub data DeskRan : Keeper → Desk → List Act → List LeftWith → Type 0 where
  ended : {k : Keeper} {d : Desk} → DeskRan k d [] []
  called : {k : Keeper} {d : Desk} {c : Call} {more : List Act} (room : List ℕ) {x : Left} {xs : List LeftWith}
      → x ≡ leaves k c room → DeskRan x.keeper d more xs → DeskRan k d (calls c ∷ more) (beside d x ∷ xs)
  asked : {k : Keeper} {d : Desk} {now : ℕ} {field : List ℕ} {more : List Act} {x : LeftWith} {xs : List LeftWith}
      → x ≡ issue k d now field → DeskRan x.keeper x.desk more xs → DeskRan k d (asks now field ∷ more) (x ∷ xs)

-- a record that held anything, made a keeper from start bytes; a desk that remembers nothing, whatever lies in its places; and then so many calls
pub record MadeAndIssued (k : Keeper) (start places : List ℕ) (m : Left) (acts : List Act) (xs : List LeftWith) : Type 0 where
  pub made : m ≡ leaves_made k start
  pub ran : DeskRan m.keeper (desk_of 0 places) acts xs
