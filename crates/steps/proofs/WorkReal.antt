-- Work of the code: of every run from a making, each answer reports the work that was done.
use mathlib.Core.Path.{◌≡◌, ap}
use mathlib.Core.List.{List, [], ◌∷◌}
use Prim.Native.Nat.{ℕ}
use Rattle.keeper.specs.Record.{fresh}
use Rattle.keeper.specs.Calls.{Call, public}
use Rattle.keeper.specs.Narrative.{told}
use Rattle.keeper.specs.Work.{Worked, AllWorked, StartBytes}
use Rattle.keeper.specs.declared.Keeper.{Keeper}
use Rattle.keeper.proofs.Work.{work_real}
use Rattle.steps.specs.Promise.{Left, leaves}
use Rattle.steps.specs.Runs.{Ran, ended, next, MadeAndRan, LeftWorked, idle, worked}
use Rattle.steps.proofs.FixedAnswers.{makes}

-- what the contracts say is left has the work that the rules tell
carried : (k : Keeper) (cs : List Call) (xs : List Left) → Ran k cs xs → AllWorked k cs → LeftWorked k cs xs
unfolding AllWorked leaves
carried k [] [] ended w = idle
carried k (c ∷ cs) (x ∷ xs) (next room e r) w =
    let ek : x.keeper ≡ (told k c).keeper = ap (λ (y : Left). y.keeper) e in
    let ea : x.answer ≡ (told k c).answer = ap (λ (y : Left). y.answer) e in
    let real : Worked k (public c) x.keeper x.answer = rw (ek, ea) w.0 in
    worked {x = x} real (carried x.keeper cs xs r (rw ek w.1))
carried k [] (x ∷ xs) x5 w = elim x5 [ ]
carried k (c ∷ cs) [] x4 w = elim x4 [ ]

-- WORK
pub all_real : (k : Keeper) (start : List ℕ) → StartBytes start → (m : Left) (cs : List Call) (xs : List Left) → MadeAndRan k start m cs xs → LeftWorked m.keeper cs xs
all_real k start b m cs xs r =
    let f : m.keeper ≡ fresh start = ap (λ (x : Left). x.keeper) (makes k start m r.made b.long) in
    carried m.keeper cs xs r.ran (rw f (work_real start b cs))
