-- The table of timers: a row for each device, a timer that is kept in it, and the timer that the clocks of a device's kept events leave.
use mathlib.Core.Path.{◌≡◌, ◌∙◌}
use mathlib.Core.List.{List, [], ◌∷◌}
use Prim.Native.Nat.{ℕ, ◌<◌}
use native.Mathlib.Omega.{arith}
use lib.IntN.{pos}
use lib.ListN.{length, length-set, length-replicate}
use lib.Seq.{get_or-set_same, get_or-set_other}
use Rattle.ledger.specs.Sizes.{devices}
use Rattle.ledger.specs.Clocks.{next_timer}
use Rattle.ledger.specs.Timers.{Timers, fresh_timer, timer_of, kept}
use Rattle.ledger.specs.Machine.{fresh_view}
use Rattle.ledger.specs.declared.Timer.{Timer}

-- ---- a table of timers
-- a row for each of n devices
pub record Rows (n : ℕ) (ts : Timers) : Type 0 where
  pub clocks : length ts.clocks ≡ n
  pub firsts : length ts.firsts ≡ n
  pub seconds : length ts.seconds ≡ n
  pub came : length ts.came ≡ n

pub kept_rows : {n : ℕ} (ts : Timers) (d : ℕ) (t : Timer) → Rows n ts → Rows n (kept d t ts)
kept_rows ts d t r =
    record { clocks = length-set ts.clocks d t.clock ∙ r.clocks; firsts = length-set ts.firsts d t.d1 ∙ r.firsts; seconds = length-set ts.seconds d t.d2 ∙ r.seconds; came = length-set ts.came d t.came ∙ r.came }

-- the timer that was kept is the device's, and no other device's moved
pub kept_same : {n : ℕ} (ts : Timers) (d : ℕ) (t : Timer) → d < n → Rows n ts → timer_of (kept d t ts) d ≡ t
kept_same ts d t h r =
    rw (get_or-set_same ts.clocks d t.clock 0 (omega (arith, r.clocks)), get_or-set_same ts.firsts d t.d1 (pos 0) (omega (arith, r.firsts)), get_or-set_same ts.seconds d t.d2 (pos 0) (omega (arith, r.seconds)), get_or-set_same ts.came d t.came 0 (omega (arith, r.came)))

pub kept_other : (ts : Timers) (d e : ℕ) (t : Timer) → (e ≡ d → ⊥) → timer_of (kept d t ts) e ≡ timer_of ts e
kept_other ts d e t h =
    rw (get_or-set_other ts.clocks d e t.clock 0 h, get_or-set_other ts.firsts d e t.d1 (pos 0) h, get_or-set_other ts.seconds d e t.d2 (pos 0) h, get_or-set_other ts.came d e t.came 0 h)

-- a fresh table has a row for each device
pub fresh_rows : Rows devices fresh_view.timers
fresh_rows =
    record { clocks = length-replicate {A = ℕ} devices 0; firsts = length-replicate devices (pos 0); seconds = length-replicate devices (pos 0); came = length-replicate {A = ℕ} devices 0 }

-- ---- by clocks
-- of a device whose kept events had these clocks, newest first
unfoldable pub timer_by : List ℕ → Timer
timer_by [] = fresh_timer
timer_by (now ∷ before) = next_timer now (timer_by before)
