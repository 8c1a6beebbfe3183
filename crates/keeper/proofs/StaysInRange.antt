-- A record in range stays in range, so no run from a fresh keeper is ever answered 17.
use mathlib.Core.Path.{◌≡◌}
use mathlib.Core.Bool.{true}
use mathlib.Core.List.{List, [], ◌∷◌}
use Prim.Native.Nat.{ℕ, ◌≤◌}
use native.Mathlib.Omega.{arith}
use lib.ListN.{length}
use Rattle.ledger.proofs.InRange.{Fine, fine_in_range, step-fine, fresh-fine, fine_low}
use Rattle.ledger.proofs.InRange.{fine as view-fine}
use Rattle.keeper.specs.Record.{fresh, view, fine}
use Rattle.keeper.specs.Calls.{Call, public}
use Rattle.keeper.specs.Narrative.{told}
use Rattle.keeper.specs.Demands.{keeper_after}
use Rattle.keeper.specs.declared.Keeper.{Keeper}
use Rattle.keeper.proofs.Shadow.{Whole, view_is, number_is, stays_whole}
use Rattle.keeper.proofs.Blind.{fresh_whole}

-- what is fine of a keeper: a count lies in 0 to S, a position inside its pool, a rotation in 0 to 31, and so on
pub facts : (k : Keeper) → fine k ≡ true → Fine (view k)
facts k h = view-fine (view k) h

-- one call
call_fine : (k : Keeper) (c : Call) → Whole k → Fine (view k) → Fine (view (told k c).keeper)
call_fine k c w f = rw (view_is k c w) (step-fine (view k) (public c) f)

pub stays-fine : (k : Keeper) (c : Call) → Whole k → fine k ≡ true → fine (told k c).keeper ≡ true
stays-fine k c w h = fine_in_range (view (told k c).keeper) (call_fine k c w (facts k h))

-- any number of calls
pub after_fine : (k : Keeper) (cs : List Call) → Whole k → Fine (view k) → Whole (keeper_after k cs) × Fine (view (keeper_after k cs))
unfolding keeper_after
after_fine k [] w f = (w, f)
after_fine k (c ∷ cs) w f = after_fine (told k c).keeper cs (stays_whole k c w) (call_fine k c w f)

-- a call on a keeper in range is answered with 7 at most
pub low : (k : Keeper) (c : Call) → Fine (view k) → (told k c).answer.number ≤ 7
low k c f = rw (number_is k c) (fine_low (view k) (public c) f)

-- NO 17 after any calls from a fresh keeper
pub never_17 : (start : List ℕ) → length start ≡ 48 → (cs : List Call) (c : Call) → (told (keeper_after (fresh start) cs) c).answer.number ≡ 17 → ⊥
never_17 start h cs c e =
    let a = after_fine (fresh start) cs (fresh_whole start h) fresh-fine in
    omega (arith, low (keeper_after (fresh start) cs) c a.1)
