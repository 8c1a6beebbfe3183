-- The pass over the records: what was found so far, with what is still ahead, is what the whole walk has.
use mathlib.Core.Path.{◌≡◌, refl, ◌∙◌}
use mathlib.Core.Bool.{Bool, true, false, ◌||◌}
use mathlib.Core.List.{List}
use Prim.Native.Nat.{ℕ, ◌+◌, ◌≤◌}
use native.Mathlib.Omega.{arith}
use lib.Dec.{leb}
use Rattle.std.proofs.Common.{add-zero}
use Rattle.journal.specs.Reading.{read_at}
use Rattle.journal.specs.Walking.{halt, walk}
use Rattle.journal.specs.Layout.{devices_in}
use Rattle.journal.specs.declared.records.Record.{Record}
use Rattle.journal.specs.declared.records.Record.TheVariants.{Event, Interrupt, Write, Seed, Read, BlockingRead}
use Rattle.journal.specs.Found.{One}
use Rattle.journal.proofs.Onward.{read_ahead}
use Rattle.journal.proofs.Walks.{walk_one}
use Rattle.convert.specs.Converting.{strange, beyond}
use Rattle.convert.specs.Passes.{one_event, events_in, judged}
use Rattle.convert.proofs.Longer.{one_at_most}

or_assoc : (a b c : Bool) → ((a || b) || c) ≡ (a || (b || c))
or_assoc true b c = refl
or_assoc false b c = refl

or_false : (a : Bool) → (a || false) ≡ a
or_false true = refl
or_false false = refl

-- a record that is no event
other : (r : Record) → ((now device stamp value : ℕ) → r ≡ Event now device stamp value → ⊥) → (strange r ≡ false) × (one_event r ≡ 0)
unfolding strange one_event
other (Event now device stamp value) n = absurd (n now device stamp value refl)
other (Interrupt now number stamp address) n = (refl, refl)
other (Write now len) n = (refl, refl)
other (Seed now len credit) n = (refl, refl)
other (Read now len) n = (refl, refl)
other (BlockingRead now len) n = (refl, refl)

-- at a position of the walk from another on, with this found of the records before it
pub record Going (v : ℕ) (j : List ℕ) (from at : ℕ) (odd : Bool) (events : ℕ) : Type 0 where
  pub number : (walk v j at).number ≡ (walk v j from).number
  pub devices : (odd || beyond (walk v j at).entries) ≡ beyond (walk v j from).entries
  pub counted : events + events_in (walk v j at).entries ≡ events_in (walk v j from).entries
  pub few : events ≤ at

pub begin : (v : ℕ) (j : List ℕ) (from : ℕ) → Going v j from from false 0
begin v j from = record { number = refl; devices = refl; counted = omega arith; few = omega arith }

module _ {v : ℕ} {j : List ℕ} {from at : ℕ} {odd : Bool} {events : ℕ} (g : Going v j from at odd events) where
  -- past a record
  pub going_on : (r : Record) (next : ℕ) → read_at v j at ≡ One r next → Going v j from next (odd || strange r) (events + one_event r)
  unfolding beyond events_in
  going_on r next e =
      let w = walk_one v j at r next e in
      let c : events + (one_event r + events_in (walk v j next).entries) ≡ events_in (walk v j from).entries = rw w at g.counted in
      record {
        number = rw w at g.number;
        devices = or_assoc odd (strange r) (beyond (walk v j next).entries) ∙ rw w at g.devices;
        counted = omega (arith, c);
        few = omega (arith, g.few, one_at_most r, (read_ahead v j at r next e).0);
      }

  pub past_event : (r : Record) (next now device stamp value : ℕ) → r ≡ Event now device stamp value → read_at v j at ≡ One r next
      → Going v j from next (odd || leb (devices_in 1) device) (events + 1)
  unfolding strange one_event
  past_event r next now device stamp value q e = rw q at (going_on r next e)

  pub past_other : (r : Record) (next : ℕ) → ((now device stamp value : ℕ) → r ≡ Event now device stamp value → ⊥) → read_at v j at ≡ One r next → Going v j from next odd events
  past_other r next n e =
      let o = other r n in
      rw (o.0, o.1, or_false odd, add-zero events) at (going_on r next e)

  -- where no record stands
  pub gone : (n : ℕ) → walk v j at ≡ halt at n → record { number = n; strange = odd; events = events } ≡ judged (walk v j from)
  unfolding beyond events_in judged
  gone n w =
      let a : n ≡ (walk v j from).number = rw w at g.number in
      let b : (odd || false) ≡ beyond (walk v j from).entries = rw w at g.devices in
      let c : events + 0 ≡ events_in (walk v j from).entries = rw w at g.counted in
      let d : events ≡ events_in (walk v j from).entries = omega (arith, c) in
      rw (← a, ← d, ← b, or_false odd) refl
