-- What a call awards: bits, before the pool dampens them. It is told from the calls alone, this one and those before it, newest first; no keeper's
-- record is asked. Beside it, what a keeper gives by its own record; proofs/Awarded.antt shows that the two are the same.
use Rattle.std.specs.Prelude.{Bool, ◌&&◌, ◌||◌, ℕ, ◌+◌, ◌*◌, leb, eqb}
use mathlib.Core.List.{List, [], ◌∷◌, sum}
use Rattle.ledger.specs.Choice.{pick}
use Rattle.ledger.specs.Sizes.{longest}
use Rattle.ledger.specs.Numbers.{done}
use Rattle.ledger.specs.Clocks.{clock_diff, exceeds, event_bits}
use Rattle.ledger.specs.Timers.{timer_of}
use Rattle.ledger.specs.Marks.{stays}
use Rattle.ledger.specs.Range.{View}
use Rattle.ledger.specs.PublicCalls.{PublicCall, event, interrupt, write, seed, read, blocking_read}
use Rattle.ledger.specs.Machine.{step_view}
use Rattle.ledger.specs.Earned.{is_kept, kept_clocks, earned}
use Rattle.ledger.specs.declared.Spill.{Spill}

-- ---- interrupts
-- the clocks of all interrupts, newest first
unfoldable pub interrupt_clocks : List PublicCall → List ℕ
interrupt_clocks [] = []
interrupt_clocks (event device now value ∷ earlier) = interrupt_clocks earlier
interrupt_clocks (interrupt now number ∷ earlier) = now ∷ interrupt_clocks earlier
interrupt_clocks (write len ∷ earlier) = interrupt_clocks earlier
interrupt_clocks (seed now len credit ∷ earlier) = interrupt_clocks earlier
interrupt_clocks (read now len ∷ earlier) = interrupt_clocks earlier
interrupt_clocks (blocking_read len ∷ earlier) = interrupt_clocks earlier

-- an interrupt spills: it is the 64th since the last spill, or comes more than 1,000 after it
abbrev pub spills : ℕ → Spill → Bool
spills now s = leb 64 (s.tally + 1) || exceeds (clock_diff now s.clock) 1000

-- interrupts since the last spill, and its clock, where these are the clocks of all interrupts, newest first; none and 0 before the first
unfoldable pub spill_by : List ℕ → Spill
spill_by [] = record { tally = 0; clock = 0 }
spill_by (now ∷ before) =
    let s = spill_by before in
    pick (spills now s) (record { tally = 0; clock = now }) (record { tally = s.tally + 1; clock = s.clock })

-- ---- the award
-- an event's, by the clocks of its device's kept events before it; an interrupt's, 1 at a spill, by the clocks of those before it; a seed's, the
-- named bits. A call that is refused awards nothing, and neither do writes and reads
unfoldable pub award : List PublicCall → PublicCall → ℕ
award earlier (event device now value) = pick (is_kept device value earlier) (earned now (kept_clocks device earlier)) 0
award earlier (interrupt now number) = pick (spills now (spill_by (interrupt_clocks earlier))) 1 0
award earlier (write len) = 0
award earlier (seed now len credit) = pick (leb len longest && leb credit (8 * len)) credit 0
award earlier (read now len) = 0
award earlier (blocking_read len) = 0

-- the awards of calls, one after another; and their sum, from a fresh keeper on
unfoldable pub awards_from : List PublicCall → List PublicCall → List ℕ
awards_from earlier [] = []
awards_from earlier (c ∷ cs) = award earlier c ∷ awards_from (c ∷ earlier) cs

abbrev pub awarded : List PublicCall → ℕ
awarded cs = sum ◌+◌ 0 (awards_from [] cs)

-- ---- the same by a keeper's own record
-- bits by the device's own timer and by the tally; nothing where the call is not answered 0
abbrev pub bits_by : View → PublicCall → ℕ
bits_by v (event device now value) = event_bits now (timer_of v.timers device)
bits_by v (interrupt now number) = pick (stays now v.ledger) 0 1
bits_by v (write len) = 0
bits_by v (seed now len credit) = credit
bits_by v (read now len) = 0
bits_by v (blocking_read len) = 0

abbrev pub given : View → PublicCall → ℕ
given v c = pick (eqb (step_view v c).answer.number done) (bits_by v c) 0
