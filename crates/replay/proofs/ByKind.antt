-- A record of a kind is that kind's call, with the bytes that were handed over.
use mathlib.Core.Path.{◌≡◌}
use mathlib.Core.List.{List}
use Prim.Native.Nat.{ℕ, ◌-◌}
use lib.ListN.{take, drop}
use Rattle.journal.specs.Layout.{carries}
use Rattle.journal.specs.Writing.{carried_by}
use Rattle.journal.specs.declared.records.Record.{Record}
use Rattle.journal.specs.declared.records.Record.TheVariants.{Event, Interrupt, Write, Seed, Read, BlockingRead}
use Rattle.keeper.specs.Calls.{Call, device_event, interrupted, written, seeded_with, generator_read, blocking_read_of}
use Rattle.replay.specs.Running.{device_named, call_with}

module _ (v : ℕ) (j : List ℕ) (r : Record) (next : ℕ) where
  abbrev Called : Call → Type 0
  Called c = call_with v (carried_by j r next) r ≡ c

  pub call_event : (now device d stamp value : ℕ) → r ≡ Event now device stamp value → d ≡ device_named v device → Called (device_event d now stamp value)
  unfolding call_with
  call_event now device d stamp value e f = rw (e, f)

  pub call_interrupt : (now number stamp address : ℕ) → r ≡ Interrupt now number stamp address → Called (interrupted now number stamp address)
  unfolding call_with
  call_interrupt now number stamp address e = rw e

  pub call_write : (now len : ℕ) (p : List ℕ) → r ≡ Write now len → p ≡ take len (drop (next - len) j) → Called (written p)
  unfolding call_with carried_by carries
  call_write now len p e q = rw (e, q)

  pub call_seed : (now len credit : ℕ) (p : List ℕ) → r ≡ Seed now len credit → p ≡ take len (drop (next - len) j) → Called (seeded_with now p credit)
  unfolding call_with carried_by carries
  call_seed now len credit p e q = rw (e, q)

  pub call_read : (now len : ℕ) → r ≡ Read now len → Called (generator_read now len)
  unfolding call_with
  call_read now len e = rw e

  pub call_blocking : (now len : ℕ) → r ≡ BlockingRead now len → Called (blocking_read_of len)
  unfolding call_with
  call_blocking now len e = rw e
