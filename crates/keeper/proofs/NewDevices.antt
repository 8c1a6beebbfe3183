-- New devices earn nothing at first, of whole keepers: `ledger` has it of what can be seen, and that is all that a call shows.
use mathlib.Core.Path.{◌≡◌, refl, sym, ap, subst, ◌∙◌}
use mathlib.Core.List.{List, [], ◌∷◌, map, reverse}
use Prim.Native.Nat.{ℕ, ◌<◌}
use lib.ListN.{length}
use Rattle.ledger.specs.Sizes.{devices, start_bytes, events_before}
use Rattle.ledger.specs.Clocks.{event_bits}
use Rattle.ledger.specs.Timers.{timer_of}
use Rattle.ledger.specs.Range.{View}
use Rattle.ledger.specs.PublicCalls.{event}
use Rattle.ledger.specs.Machine.{Shown, step_view}
use Rattle.ledger.specs.Earned.{kept_clocks, earned, EarnsNothing}
use Rattle.ledger.proofs.InRange.{view_after, fresh-fine}
use Rattle.ledger.proofs.NewDevices as Seen
use Rattle.keeper.specs.Record.{fresh, device_timer, view}
use Rattle.keeper.specs.Calls.{Call, device_event, public}
use Rattle.keeper.specs.Narrative.{told}
use Rattle.keeper.specs.Demands.{keeper_after}
use Rattle.keeper.specs.declared.Keeper.{Keeper}
use Rattle.keeper.proofs.Shadow.{Whole, shadow, stays_whole, view_is}
use Rattle.keeper.proofs.Blind.{fresh_whole}
use Rattle.keeper.proofs.StaysInRange.{after_fine}

-- what can be seen after calls
pub view_after_lem : (k : Keeper) (cs : List Call) → Whole k → view (keeper_after k cs) ≡ view_after (view k) (map public cs)
unfolding keeper_after view_after
view_after_lem k [] w = refl
view_after_lem k (c ∷ cs) w = view_after_lem (told k c).keeper cs (stays_whole k c w) ∙ ap (λ (v : View). view_after v (map public cs)) (view_is k c w)

-- from a fresh keeper on, whatever the calls, an event earns by the clocks of its device's kept events and by nothing else
pub earned_by_clocks : (start : List ℕ) (device now : ℕ) (cs : List Call) → length start ≡ start_bytes → device < devices
    → event_bits now (device_timer (keeper_after (fresh start) cs) device) ≡ earned now (kept_clocks device (reverse (map public cs)))
earned_by_clocks start device now cs h d =
    ap (λ (v : View). event_bits now (timer_of v.timers device)) (view_after_lem (fresh start) cs (fresh_whole start h)) ∙ Seen.earned_by_clocks device now (map public cs) d

-- and one before which fewer than three of its device were kept earns nothing
pub nothing_at_first : (start : List ℕ) (device now stamp value : ℕ) (cs : List Call) → length start ≡ start_bytes → device < devices → length (kept_clocks device (reverse (map public cs))) < events_before
    → let k = keeper_after (fresh start) cs in
    let o = told k (device_event device now stamp value) in
    EarnsNothing k.ledger o.keeper.ledger o.answer
nothing_at_first start device now stamp value cs h d few =
    let k = keeper_after (fresh start) cs in
    let w = (after_fine (fresh start) cs (fresh_whole start h) fresh-fine).0 in
    let n = Seen.nothing_at_first device now value (map public cs) d few in
    let seen = subst (λ (v : View). EarnsNothing v.ledger (step_view v (event device now value)).view.ledger (step_view v (event device now value)).answer) (sym (view_after_lem (fresh start) cs (fresh_whole start h))) n in
    subst (λ (s : Shown). EarnsNothing k.ledger s.view.ledger s.answer) (sym (shadow k (device_event device now stamp value) w)) seen
