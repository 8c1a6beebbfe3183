-- Runs of a keeper's calls with a desk's: what each leaves, and the numbers that are issued.
use Rattle.std.specs.Prelude.{◌≡◌, List, [], ◌∷◌, ◌++◌, ℕ, ◌-◌, ◌<◌, eqb, length, get_or, drop}
use Rattle.ledger.specs.Choice.{pick}
use Rattle.ledger.specs.Numbers.{done}
use Rattle.ledger.specs.PublicCalls.{PublicCall}
use Rattle.keeper.specs.Calls.{Call, public}
use Rattle.keeper.specs.Narrative.{told}
use Rattle.keeper.specs.declared.Keeper.{Keeper}
use Rattle.desk.specs.Sizes.{remembers}
use Rattle.desk.specs.Issuing.{LeftWith, left_with, class_of, issue}
use Rattle.desk.specs.Repeats.{repeats}
use Rattle.desk.specs.declared.Desk.{Desk}
use Rattle.desk.specs.declared.Issued.{Issued}

-- a call of the keeper, or a number asked for at a clock with a class field
pub data Act : Type 0 where
  calls : Call → Act
  asks : ℕ → List ℕ → Act

-- what is public of it; of a class field, the class that it names
pub data PublicAct : Type 0 where
  public_call : PublicCall → PublicAct
  public_ask : ℕ → ℕ → PublicAct

abbrev pub public_act : Act → PublicAct
public_act (calls c) = public_call (public c)
public_act (asks now field) = public_ask now (class_of field)

-- what it leaves; a keeper's call leaves the desk alone, and hands back no number
unfoldable pub acted : Keeper → Desk → Act → LeftWith
acted k d (calls c) = left_with (told k c).keeper d (record { answer = (told k c).answer; number = [] })
acted k d (asks now field) = issue k d now field

-- one after another
unfoldable pub acts_leave : Keeper → Desk → List Act → List LeftWith
acts_leave k d [] = []
acts_leave k d (a ∷ more) = let x = acted k d a in x ∷ acts_leave x.keeper x.desk more

-- how many draws each throws away; a keeper's call draws nothing
abbrev pub repeats_by : Keeper → Desk → Act → ℕ
repeats_by k d (calls c) = 0
repeats_by k d (asks now field) = repeats k d now field

unfoldable pub repeats_in : Keeper → Desk → List Act → List ℕ
repeats_in k d [] = []
repeats_in k d (a ∷ more) = let x = acted k d a in repeats_by k d a ∷ repeats_in x.keeper x.desk more

-- no draw repeats
unfoldable pub NoRepeat : List ℕ → Type 0
NoRepeat [] = Unit {0}
NoRepeat (n ∷ ns) = (n ≡ 0) × NoRepeat ns

-- ---- the numbers issued, in their order
abbrev pub numbers_by : Act → Issued → List (List ℕ)
numbers_by (calls c) i = []
numbers_by (asks now field) i = pick (eqb i.answer.number done) (i.number ∷ []) []

unfoldable pub issued_in : Keeper → Desk → List Act → List (List ℕ)
issued_in k d [] = []
issued_in k d (a ∷ more) = let x = acted k d a in numbers_by a x.issued ++ issued_in x.keeper x.desk more

-- the desk at the end
unfoldable pub desk_after : Keeper → Desk → List Act → Desk
desk_after k d [] = d
desk_after k d (a ∷ more) = let x = acted k d a in desk_after x.keeper x.desk more

-- ---- what is said of them
-- a number differs from each of some
abbrev pub Differs : List ℕ → List (List ℕ) → Type 0
Differs n ms = (i : ℕ) → i < length ms → get_or ms i [] ≡ n → ⊥

-- the last 64 of some
abbrev pub newest : List (List ℕ) → List (List ℕ)
newest ms = drop (length ms - remembers) ms
