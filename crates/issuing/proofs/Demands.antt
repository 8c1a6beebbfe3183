-- The customer's demands, of the code: by its contract, what a desk call leaves is one fixed thing; refused with anything but 14 it leaves record
-- and desk as they were; any two of the last 65 numbers that a run issued differ; and two runs show the same but for draws that repeated.
use mathlib.Core.Path.{◌≡◌, refl, sym, ap, ap₂, ◌∙◌, subst}
use mathlib.Core.List.{List, [], ◌∷◌, ◌++◌, map}
use Prim.Native.Nat.{ℕ, ◌+◌, ◌≤◌, ◌<◌}
use native.Mathlib.Omega.{arith}
use lib.ListN.{length, get_or}
use Rattle.ledger.specs.Sizes.{start_bytes}
use Rattle.keeper.specs.Record.{fresh}
use Rattle.keeper.specs.declared.Keeper.{Keeper}
use Rattle.keeper.proofs.Shadow.{Whole}
use Rattle.keeper.proofs.Blind.{fresh_whole}
use Rattle.steps.specs.Promise.{Left, leaves}
use Rattle.steps.proofs.FixedAnswers.{makes}
use Rattle.desk.specs.Sizes.{desk_bytes}
use Rattle.desk.specs.Desks.{desk_of}
use Rattle.desk.specs.Issuing.{LeftWith, left_with, nothing_yet, none, issue}
use Rattle.desk.specs.Runs.{Act, calls, asks, public_act, acted, acts_leave, repeats_in, NoRepeat, numbers_by, issued_in}
use Rattle.desk.specs.Shown.{desk_shown, AllNear}
use Rattle.desk.specs.declared.Desk.{Desk}
use Rattle.desk.proofs.Refusals as Told
use Rattle.desk.proofs.DeskBlind as Blind
use Rattle.desk.proofs.LastIssued as Issued
use Rattle.desk.proofs.StaysInRange.{Stand}
use Rattle.issuing.specs.Runs.{beside, DeskRan, ended, called, asked, MadeAndIssued}

-- ---- one call
-- DEMAND 1: one fixed answer
pub one_answer : (k : Keeper) (d : Desk) (now : ℕ) (field : List ℕ) (x y : LeftWith) → x ≡ issue k d now field → y ≡ issue k d now field → x ≡ y
one_answer k d now field x y ex ey = ex ∙ sym ey

-- a refusal other than 14 changes nothing
pub refuses : (k : Keeper) (d : Desk) (now : ℕ) (field : List ℕ) (x : LeftWith) → Whole k → x ≡ issue k d now field
    → (x.issued.answer.number ≡ 0 → ⊥) → (x.issued.answer.number ≡ 14 → ⊥) → x ≡ left_with k d (none x.issued.answer.number nothing_yet)
refuses k d now field x w e = subst (λ (y : LeftWith). (y.issued.answer.number ≡ 0 → ⊥) → (y.issued.answer.number ≡ 14 → ⊥) → y ≡ left_with k d (none y.issued.answer.number nothing_yet))
    (sym e) (Told.refusal_changes_nothing k d now field w)

-- ---- runs
-- what a run left is what its acts leave
left_by : (k : Keeper) (d : Desk) (acts : List Act) (xs : List LeftWith) → DeskRan k d acts xs → xs ≡ acts_leave k d acts
unfolding acts_leave acted leaves
left_by k d [] [] ended = refl
left_by k d (calls c ∷ more) (y ∷ xs) (called room {x} e r) =
    ap₂ ◌∷◌ (ap (beside d) e) (left_by x.keeper d more xs r ∙ ap (λ (z : Left). acts_leave z.keeper d more) e)
left_by k d (asks now field ∷ more) (x ∷ xs) (asked e r) =
    ap₂ ◌∷◌ e (left_by x.keeper x.desk more xs r ∙ ap (λ (z : LeftWith). acts_leave z.keeper z.desk more) e)
left_by k d [] (y ∷ xs) r = elim r [ ]
left_by k d (calls c ∷ more) [] r = elim r [ ]
left_by k d (asks now field ∷ more) [] r = elim r [ ]

-- the keeper that a making gave, and the desk that remembers nothing
begun : (k : Keeper) (start places : List ℕ) (m : Left) (acts : List Act) (xs : List LeftWith) → length start ≡ start_bytes → MadeAndIssued k start places m acts xs
    → xs ≡ acts_leave (fresh start) (desk_of 0 places) acts
begun k start places m acts xs h r =
    left_by m.keeper (desk_of 0 places) acts xs r.ran ∙ ap (λ (x : Left). acts_leave x.keeper (desk_of 0 places) acts) (makes k start m r.made h)

-- DEMAND 3: two records that held anything, made keepers from any start bytes, and two desks that remember nothing; runs of the same kinds of call with the
-- same public fields and the same classes, in which no draw repeats: every call leaves the same ledger, timers, answers and count of the desk
pub public_alone : (k k' : Keeper) (start start' places places' : List ℕ) → length start ≡ start_bytes → length start' ≡ start_bytes → (m m' : Left) (acts acts' : List Act) (xs ys : List LeftWith)
    → map public_act acts ≡ map public_act acts' → MadeAndIssued k start places m acts xs → MadeAndIssued k' start' places' m' acts' ys
    → NoRepeat (repeats_in (fresh start) (desk_of 0 places) acts) → NoRepeat (repeats_in (fresh start') (desk_of 0 places') acts') → map desk_shown xs ≡ map desk_shown ys
public_alone k k' start start' places places' h h' m m' acts acts' xs ys e r r' n n' =
    ap (map desk_shown) (begun k start places m acts xs h r)
    ∙ Blind.demand_3_desk start start' places places' h h' acts acts' e n n'
    ∙ sym (ap (map desk_shown) (begun k' start' places' m' acts' ys h' r'))

-- without that condition: whichever draws repeat, the same is public of both records after each call, every call of the keeper answers the same, and what a
-- desk call answers differs by three reads at the most (`Blind.three-reads`), and by a number or none
pub near : (k k' : Keeper) (start start' places places' : List ℕ) → length start ≡ start_bytes → length start' ≡ start_bytes → (m m' : Left) (acts acts' : List Act) (xs ys : List LeftWith)
    → map public_act acts ≡ map public_act acts' → MadeAndIssued k start places m acts xs → MadeAndIssued k' start' places' m' acts' ys → AllNear (map public_act acts) (map desk_shown xs) (map desk_shown ys)
near k k' start start' places places' h h' m m' acts acts' xs ys e r r' =
    rw (begun k start places m acts xs h r, begun k' start' places' m' acts' ys h' r')
    (Blind.near (fresh start) (fresh start') (desk_of 0 places) (desk_of 0 places') acts acts' (fresh_whole start h) (fresh_whole start' h') refl (omega arith) (omega arith) e)

-- ---- the numbers that a run issued, read off what the calls left
unfoldable pub issued_of : List Act → List LeftWith → List (List ℕ)
issued_of [] xs = []
issued_of (a ∷ more) [] = []
issued_of (a ∷ more) (x ∷ xs) = numbers_by a x.issued ++ issued_of more xs

issued_of_lem : (k : Keeper) (d : Desk) (acts : List Act) → issued_of acts (acts_leave k d acts) ≡ issued_in k d acts
unfolding issued_of acts_leave issued_in
issued_of_lem k d [] = refl
issued_of_lem k d (a ∷ more) = let x = acted k d a in ap (λ (l : List (List ℕ)). numbers_by a x.issued ++ l) (issued_of_lem x.keeper x.desk more)

-- ANY TWO OF THE LAST 65 NUMBERS DIFFER
pub last_65 : (k : Keeper) (start places : List ℕ) (m : Left) (acts : List Act) (xs : List LeftWith) → length start ≡ start_bytes → length places ≡ desk_bytes
    → MadeAndIssued k start places m acts xs → let ns = issued_of acts xs in
    (i j : ℕ) → i < j → j ≤ i + 64 → j < length ns → get_or ns i [] ≡ get_or ns j [] → ⊥
last_65 k start places m acts xs h p r =
    let e : issued_of acts xs ≡ issued_in (fresh start) (desk_of 0 places) acts = ap (issued_of acts) (begun k start places m acts xs h r) ∙ issued_of_lem (fresh start) (desk_of 0 places) acts in
    let s : Stand (fresh start) (desk_of 0 places) = record { whole = fresh_whole start h; desk = record { places = p; counted = omega arith } } in
    rw e (Issued.last_65 (fresh start) (desk_of 0 places) acts s)
