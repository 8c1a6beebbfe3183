-- Devices of old journals: in version 1 an event of a device of 16 or more is answered 4 and changes nothing, whatever else its record holds, as
-- the keeper of those days would have done. A device that there was is named as it stands.
use mathlib.Core.Path.{◌≡◌, refl, ap}
use mathlib.Core.Bool.{Bool, true}
use mathlib.Core.List.{List}
use Prim.Native.Nat.{ℕ, ◌≤◌, ◌<◌}
use borrow.Author.Tests.{lt-ltb, le-ltb}
use Rattle.ledger.specs.Choice.{pick}
use Rattle.ledger.specs.Sizes.{devices}
use Rattle.ledger.specs.Numbers.{no_such_device}
use Rattle.journal.specs.Layout.{devices_in}
use Rattle.journal.specs.declared.records.Record.TheVariants.{Event}
use Rattle.keeper.specs.Record.{fine, refused}
use Rattle.keeper.specs.Narrative.{event_call, act, told}
use Rattle.keeper.specs.declared.Keeper.{Keeper}
use Rattle.replay.specs.Running.{device_named, call_with}

-- a device that there was not
pub unnamed : (v device : ℕ) → devices_in v ≤ device → device_named v device ≡ devices
unfolding device_named pick
unnamed v device h = ap (λ (there : Bool). pick there device devices) (le-ltb device (devices_in v) h)

-- and one that there was
pub named : (v device : ℕ) → device < devices_in v → device_named v device ≡ device
unfolding device_named pick
named v device h = ap (λ (there : Bool). pick there device devices) (lt-ltb device (devices_in v) h)

-- in any version, an event of a device that there was not
pub no_such_device_lem : (v : ℕ) (bs : List ℕ) (now device stamp value : ℕ) (k : Keeper) → devices_in v ≤ device → fine k ≡ true
    → told k (call_with v bs (Event now device stamp value)) ≡ refused no_such_device k
unfolding call_with told act event_call pick
no_such_device_lem v bs now device stamp value k h f = rw (f, unnamed v device h) refl

-- VERSION 1: 16 and above
pub old_device : (bs : List ℕ) (now device stamp value : ℕ) (k : Keeper) → 16 ≤ device → fine k ≡ true → told k (call_with 1 bs (Event now device stamp value)) ≡ refused no_such_device k
unfolding devices_in pick
old_device bs now device stamp value k h f = no_such_device_lem 1 bs now device stamp value k h f
