-- The timers of all devices, as one table: for each device its last clock, its d1 and its d2, and how many kept events came.
use Rattle.std.specs.Prelude.{List, ℕ, ℤ, pos, get_or, set, replicate}
use Rattle.ledger.specs.Sizes.{devices}
use Rattle.ledger.specs.declared.Timer.{Timer}

pub record Timers : Type 0 where
  pub clocks : List ℕ
  pub firsts : List ℤ
  pub seconds : List ℤ
  pub came : List ℕ

-- a table of four arrays
abbrev pub timers_of : List ℕ → List ℤ → List ℤ → List ℕ → Timers
timers_of clocks firsts seconds came = record { clocks = clocks; firsts = firsts; seconds = seconds; came = came }

-- of a device that had no event, and of all of them
abbrev pub fresh_timer : Timer
fresh_timer = record { clock = 0; d1 = pos 0; d2 = pos 0; came = 0 }

abbrev pub fresh_timers : Timers
fresh_timers = timers_of (replicate devices 0) (replicate devices (pos 0)) (replicate devices (pos 0)) (replicate devices 0)

-- a device's timer; where there is no such device a call is refused, whatever stands here
abbrev pub timer_of : Timers → ℕ → Timer
timer_of ts device =
    record { clock = get_or ts.clocks device 0; d1 = get_or ts.firsts device (pos 0); d2 = get_or ts.seconds device (pos 0); came = get_or ts.came device 0 }

-- a device's timer is kept
abbrev pub kept : ℕ → Timer → Timers → Timers
kept device t ts =
    timers_of (set ts.clocks device t.clock) (set ts.firsts device t.d1) (set ts.seconds device t.d2) (set ts.came device t.came)
