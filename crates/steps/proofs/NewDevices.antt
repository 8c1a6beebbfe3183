-- New devices earn nothing at first, of the code: a record that held anything, made a keeper from any start bytes, and then any calls. An event
-- before which fewer than three of its device were kept leaves both counts and the seeding as they were.
use mathlib.Core.Path.{◌≡◌, sym, ap, subst, ◌∙◌}
use mathlib.Core.List.{List, [], ◌∷◌, map, reverse}
use Prim.Native.Nat.{ℕ, ◌<◌}
use lib.ListN.{length}
use Rattle.ledger.specs.Sizes.{devices, start_bytes, events_before}
use Rattle.ledger.specs.Earned.{kept_clocks, EarnsNothing}
use Rattle.keeper.specs.Record.{fresh}
use Rattle.keeper.specs.Calls.{Call, device_event, public}
use Rattle.keeper.specs.Narrative.{told}
use Rattle.keeper.specs.Demands.{keeper_after}
use Rattle.keeper.specs.declared.Keeper.{Keeper}
use Rattle.keeper.proofs.NewDevices as Told
use Rattle.steps.specs.Promise.{Left, leaves}
use Rattle.steps.specs.Runs.{Ran, ended, next, last_of, MadeAndRan}
use Rattle.steps.proofs.FixedAnswers.{makes}

-- a run leaves the keeper that its calls make, one after another
pub ran_to : (j k : Keeper) (cs : List Call) (xs : List Left) → j ≡ k → Ran j cs xs → last_of j xs ≡ keeper_after k cs
unfolding last_of keeper_after leaves
ran_to j k [] [] e ended = e
ran_to j k (c ∷ cs) (x ∷ xs) e (next room h r) =
    ran_to x.keeper (told k c).keeper cs xs (ap (λ (y : Left). y.keeper) h ∙ ap (λ (i : Keeper). (told i c).keeper) e) r
ran_to j k [] (x ∷ xs) e x5 = elim x5 [ ]
ran_to j k (c ∷ cs) [] e x4 = elim x4 [ ]

pub nothing_at_first : (k : Keeper) (start : List ℕ) (m : Left) (cs : List Call) (xs : List Left) → length start ≡ start_bytes → MadeAndRan k start m cs xs
    → (device now stamp value : ℕ) (room : List ℕ) (x : Left) → device < devices → length (kept_clocks device (reverse (map public cs))) < events_before
    → x ≡ leaves (last_of m.keeper xs) (device_event device now stamp value) room → EarnsNothing (last_of m.keeper xs).ledger x.keeper.ledger x.answer
unfolding leaves
nothing_at_first k start m cs xs h r device now stamp value room x d few e =
    let c = device_event device now stamp value in
    let p = ran_to m.keeper (fresh start) cs xs (ap (λ (y : Left). y.keeper) (makes k start m r.made h)) r.ran in
    let n = Told.nothing_at_first start device now stamp value cs h d few in
    let o = subst (λ (i : Keeper). EarnsNothing i.ledger (told i c).keeper.ledger (told i c).answer) (sym p) n in
    subst (λ (y : Left). EarnsNothing (last_of m.keeper xs).ledger y.keeper.ledger y.answer) (sym e) o
