-- The ledger's marks, and what a call makes of them.
use Rattle.std.specs.Prelude.{Bool, ◌&&◌, not, ℕ, ◌+◌, ◌<◌, ltb, eqb}
use Rattle.ledger.specs.Choice.{pick}
use Rattle.ledger.specs.Clocks.{clock_diff, exceeds}
use Rattle.ledger.specs.declared.Spot.{Spot}
use Rattle.ledger.specs.declared.Gauge.{Gauge}
use Rattle.ledger.specs.declared.Spill.{Spill}
use Rattle.ledger.specs.declared.Seeding.{Seeding}
use Rattle.ledger.specs.declared.Ledger.{Ledger}

-- ---- all zero, unseeded
abbrev pub fresh_gauge : Gauge
fresh_gauge = record { count = 0; spot = record { at = 0; turn = 0 } }

abbrev pub fresh_ledger : Ledger
fresh_ledger = record { input = fresh_gauge; blocking = fresh_gauge; value = 0; spill = record { tally = 0; clock = 0 }; seeding = record { mark = 0; clock = 0 } }

-- ---- the ledger with another part
abbrev pub with_input : Gauge → Ledger → Ledger
with_input g l = record { input = g; blocking = l.blocking; value = l.value; spill = l.spill; seeding = l.seeding }

abbrev pub with_blocking : Gauge → Ledger → Ledger
with_blocking g l = record { input = l.input; blocking = g; value = l.value; spill = l.spill; seeding = l.seeding }

abbrev pub with_value : ℕ → Ledger → Ledger
with_value x l = record { input = l.input; blocking = l.blocking; value = x; spill = l.spill; seeding = l.seeding }

abbrev pub with_spill : Spill → Ledger → Ledger
with_spill s l = record { input = l.input; blocking = l.blocking; value = l.value; spill = s; seeding = l.seeding }

abbrev pub with_seeding : Seeding → Ledger → Ledger
with_seeding s l = record { input = l.input; blocking = l.blocking; value = l.value; spill = l.spill; seeding = s }

-- ---- a pool's count becomes c
abbrev pub counting : ℕ → Gauge → Gauge
counting c g = record { count = c; spot = g.spot }

abbrev pub input_counts : ℕ → Ledger → Ledger
input_counts c l = with_input (counting c l.input) l

abbrev pub blocking_counts : ℕ → Ledger → Ledger
blocking_counts c l = with_blocking (counting c l.blocking) l

-- ---- a pool's next byte goes to a spot
abbrev pub placing : Spot → Gauge → Gauge
placing s g = record { count = g.count; spot = s }

abbrev pub with_spots : Spot → Spot → Ledger → Ledger
with_spots i b l = with_blocking (placing b l.blocking) (with_input (placing i l.input) l)

-- ---- what calls keep
-- the seeding clock becomes `now`; the keeper is seeded for good
abbrev pub seeding_at : ℕ → Seeding
seeding_at now = record { mark = 1; clock = now }

abbrev pub seeded_at : ℕ → Ledger → Ledger
seeded_at now l = with_seeding (seeding_at now) l

-- the same after a reseed that took t bytes: if none is taken, nothing changes
abbrev pub seeded_by : ℕ → ℕ → Ledger → Ledger
seeded_by t now l = with_seeding (pick (eqb t 0) l.seeding (seeding_at now)) l

-- on device 0 also the value is kept
abbrev pub valued : ℕ → ℕ → Ledger → Ledger
valued device value l = with_value (pick (eqb device 0) value l.value) l

-- the tally grows by one
abbrev pub tallied : Ledger → Ledger
tallied l = with_spill (record { tally = l.spill.tally + 1; clock = l.spill.clock }) l

-- tally 0, last spill now
abbrev pub spilled : ℕ → Ledger → Ledger
spilled now l = with_spill (record { tally = 0; clock = now }) l

-- ---- what calls ask
-- seeded: the mark is 1. No other number is read as a yes.
abbrev pub is_seeded : Ledger → Bool
is_seeded l = eqb l.seeding.mark 1

-- an interrupt only stirs the fast pool: its tally is below 64, and now - last spill is at most 1,000
abbrev pub stays : ℕ → Ledger → Bool
stays now l = ltb (l.spill.tally + 1) 64 && not (exceeds (clock_diff now l.spill.clock) 1000)

-- now - seeding clock exceeds 300,000
abbrev pub reseed_due : ℕ → Ledger → Bool
reseed_due now l = exceeds (clock_diff now l.seeding.clock) 300000

-- the blocking count is below 64 and the input count below 512: as a test, and as two facts
abbrev pub is_low : Ledger → Bool
is_low l = ltb l.blocking.count 64 && ltb l.input.count 512

abbrev pub Low : Ledger → Type 0
Low l = (l.blocking.count < 64) × (l.input.count < 512)
