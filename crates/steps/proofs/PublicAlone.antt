-- Demand 3 of the code: two records that held anything, made keepers from any start bytes, and then two runs of calls of the same kinds with the
-- same public fields: the makings and every call after them leave the same ledger, timers and answers, whatever the start bytes, stamps,
-- addresses, fed bytes and rooms are.
use mathlib.Core.Path.{◌≡◌, refl, sym, ap, ap₂, ◌∙◌}
use mathlib.Core.List.{List, [], ◌∷◌, map}
use Prim.Native.Nat.{ℕ}
use lib.ListN.{length}
use Rattle.ledger.specs.Sizes.{start_bytes}
use Rattle.keeper.specs.Record.{fresh}
use Rattle.keeper.specs.Calls.{Call, public}
use Rattle.keeper.specs.Narrative.{told}
use Rattle.keeper.specs.Demands.{outcomes, shown}
use Rattle.keeper.specs.declared.Keeper.{Keeper}
use Rattle.keeper.proofs.Blind.{demand_3}
use Rattle.steps.specs.Promise.{Left, leaves}
use Rattle.steps.specs.Runs.{Ran, ended, next, MadeAndRan, showing, LeftAlike}
use Rattle.steps.proofs.FixedAnswers.{makes}

-- a run shows what the outcomes of its calls show
shows : (j k : Keeper) (cs : List Call) (xs : List Left) → j ≡ k → Ran j cs xs → map showing xs ≡ map shown (outcomes k cs)
unfolding outcomes leaves
shows j k [] [] e ended = refl
shows j k (c ∷ cs) (x ∷ xs) e (next room h r) =
    let o : showing x ≡ shown (told k c) = ap showing h ∙ ap (λ (i : Keeper). shown (told i c)) e in
    let t = ap (λ (y : Left). y.keeper) h ∙ ap (λ (i : Keeper). (told i c).keeper) e in
    ap₂ ◌∷◌ o (shows x.keeper (told k c).keeper cs xs t r)
shows j k [] (x ∷ xs) e x5 = elim x5 [ ]
shows j k (c ∷ cs) [] e x4 = elim x4 [ ]

-- DEMAND 3
pub public_alone : (k k' : Keeper) (start start' : List ℕ) → length start ≡ start_bytes → length start' ≡ start_bytes → (m m' : Left) (cs cs' : List Call) (xs ys : List Left)
    → map public cs ≡ map public cs' → MadeAndRan k start m cs xs → MadeAndRan k' start' m' cs' ys → LeftAlike (m ∷ xs) (m' ∷ ys)
public_alone k k' start start' h h' m m' cs cs' xs ys e r r' =
    let f = makes k start m r.made h in
    let f' = makes k' start' m' r'.made h' in
    ap₂ ◌∷◌ (ap showing f ∙ sym (ap showing f'))
    (shows m.keeper (fresh start) cs xs (ap (λ (x : Left). x.keeper) f) r.ran
    ∙ demand_3 start start' h h' cs cs' e
    ∙ sym (shows m'.keeper (fresh start') cs' ys (ap (λ (x : Left). x.keeper) f') r'.ran))
