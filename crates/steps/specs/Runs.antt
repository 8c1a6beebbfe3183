-- A record made a keeper, and calls made on it one after another, each with an output room of its own: what the code leaves of them, what two
-- such runs must show alike, and what work each of them must report.
use Rattle.std.specs.Prelude.{◌≡◌, List, [], ◌∷◌, map, ℕ}
use Rattle.ledger.specs.Machine.{Shown}
use Rattle.keeper.specs.Calls.{Call, public}
use Rattle.keeper.specs.Record.{view}
use Rattle.keeper.specs.Work.{Worked}
use Rattle.keeper.specs.declared.Keeper.{Keeper}
use Rattle.steps.specs.Promise.{Left, leaves, leaves_made}

-- what the calls left: each is what its contract says, on the record that the one before left, whatever room was lent
pub data Ran : Keeper → List Call → List Left → Type 0 where
  ended : {k : Keeper} → Ran k [] []
  next : {k : Keeper} {c : Call} {cs : List Call} (room : List ℕ) {x : Left} {xs : List Left}
      → x ≡ leaves k c room → Ran x.keeper cs xs → Ran k (c ∷ cs) (x ∷ xs)

-- the record at the end
unfoldable pub last_of : Keeper → List Left → Keeper
last_of k [] = k
last_of k (x ∷ xs) = last_of x.keeper xs

-- a record that held anything, made a keeper from start bytes, and then so many calls
pub record MadeAndRan (k : Keeper) (start : List ℕ) (m : Left) (cs : List Call) (xs : List Left) : Type 0 where
  pub made : m ≡ leaves_made k start
  pub ran : Ran m.keeper cs xs

-- alike: all but the words of pools, fast pool and generator, and the room
abbrev pub showing : Left → Shown
showing x = record { view = view x.keeper; answer = x.answer }

abbrev pub LeftAlike : List Left → List Left → Type 0
LeftAlike xs ys = map showing xs ≡ map showing ys

-- the work that each answer reports was done
pub data LeftWorked : Keeper → List Call → List Left → Type 0 where
  idle : {k : Keeper} → LeftWorked k [] []
  worked : {k : Keeper} {c : Call} {cs : List Call} {x : Left} {xs : List Left}
      → Worked k (public c) x.keeper x.answer → LeftWorked x.keeper cs xs → LeftWorked k (c ∷ cs) (x ∷ xs)
