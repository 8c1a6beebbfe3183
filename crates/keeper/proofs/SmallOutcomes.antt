-- What comes of every call after a fresh start is small: the answer's five numbers and the two counts.
use mathlib.Core.Path.{◌≡◌, ap}
use mathlib.Core.List.{List, [], ◌∷◌}
use Prim.Native.Nat.{ℕ, ◌≤◌}
use lib.ListN.{length}
use Rattle.ledger.specs.Sizes.{input_size, blocking_size}
use Rattle.ledger.specs.Machine.{Shown, step_view}
use Rattle.ledger.proofs.InRange.{Fine, step-fine, fresh-fine}
use Rattle.ledger.proofs.SmallAnswers.{SmallAnswer, answer_small}
use Rattle.keeper.specs.Record.{fresh, view, Outcome}
use Rattle.keeper.specs.Calls.{Call, public}
use Rattle.keeper.specs.Narrative.{told}
use Rattle.keeper.specs.Demands.{outcomes}
use Rattle.keeper.specs.declared.Keeper.{Keeper}
use Rattle.keeper.proofs.Shadow.{Whole, shadow, view_is, stays_whole}
use Rattle.keeper.proofs.Blind.{fresh_whole}

pub record SmallOutcome (o : Outcome) : Type 0 where
  pub answer : SmallAnswer o.answer
  pub input : o.keeper.ledger.input.count ≤ input_size
  pub blocking : o.keeper.ledger.blocking.count ≤ blocking_size

pub data AllSmall : List Outcome → Type 0 where
  no_call : AllSmall []
  a_call : {o : Outcome} {os : List Outcome} → SmallOutcome o → AllSmall os → AllSmall (o ∷ os)

-- one call
module _ (k : Keeper) (c : Call) (w : Whole k) (f : Fine (view k)) where
  left_fine : Fine (view (told k c).keeper)
  left_fine = rw (view_is k c w) (step-fine (view k) (public c) f)

  told_small : SmallOutcome (told k c)
  told_small =
      let e : (told k c).answer ≡ (step_view (view k) (public c)).answer = ap (λ (s : Shown). s.answer) (shadow k c w) in
      record { answer = rw e (answer_small (view k) (public c) f); input = left_fine.ledger.input.count; blocking = left_fine.ledger.blocking.count }

-- any number of calls
outcomes_small : (k : Keeper) (cs : List Call) → Whole k → Fine (view k) → AllSmall (outcomes k cs)
unfolding outcomes
outcomes_small k [] w f = no_call
outcomes_small k (c ∷ cs) w f = a_call (told_small k c w f) (outcomes_small (told k c).keeper cs (stays_whole k c w) (left_fine k c w f))

-- EVERY OUTCOME IS SMALL
pub all_small : (start : List ℕ) → length start ≡ 48 → (cs : List Call) → AllSmall (outcomes (fresh start) cs)
all_small start h cs = outcomes_small (fresh start) cs (fresh_whole start h) fresh-fine
