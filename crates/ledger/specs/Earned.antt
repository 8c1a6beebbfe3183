-- What an event of a device earns, told from the calls that were made before it and from no keeper's record. Earlier calls stand newest first.
use Rattle.std.specs.Prelude.{◌≡◌, Bool, ◌&&◌, not, List, [], ◌∷◌, ℕ, min, ltb, eqb, ◌-ℤ◌, nat_abs}
use Rattle.ledger.specs.Choice.{pick}
use Rattle.ledger.specs.Sizes.{devices}
use Rattle.ledger.specs.Clocks.{clock_diff, estimate}
use Rattle.ledger.specs.PublicCalls.{PublicCall, event, interrupt, write, seed, read, blocking_read}
use Rattle.ledger.specs.declared.Ledger.{Ledger}
use Rattle.ledger.specs.declared.Answer.{Answer}

-- the value that is kept of device 0: that of its last event, for one that repeats has the same; 0 before the first
unfoldable pub last_value : List PublicCall → ℕ
last_value [] = 0
last_value (event device now value ∷ earlier) = pick (eqb device 0) value (last_value earlier)
last_value (interrupt now number ∷ earlier) = last_value earlier
last_value (write len ∷ earlier) = last_value earlier
last_value (seed now len credit ∷ earlier) = last_value earlier
last_value (read now len ∷ earlier) = last_value earlier
last_value (blocking_read len ∷ earlier) = last_value earlier

-- an event is kept: there is such a device, and on device 0 the value is not the one that is kept already
abbrev pub is_kept : ℕ → ℕ → List PublicCall → Bool
is_kept device value earlier = ltb device devices && not (eqb device 0 && eqb value (last_value earlier))

-- the clocks of a device's kept events, newest first
unfoldable pub kept_clocks : ℕ → List PublicCall → List ℕ
kept_clocks device [] = []
kept_clocks device (event d now value ∷ earlier) = pick (eqb d device && is_kept d value earlier) (now ∷ kept_clocks device earlier) (kept_clocks device earlier)
kept_clocks device (interrupt now number ∷ earlier) = kept_clocks device earlier
kept_clocks device (write len ∷ earlier) = kept_clocks device earlier
kept_clocks device (seed now len credit ∷ earlier) = kept_clocks device earlier
kept_clocks device (read now len ∷ earlier) = kept_clocks device earlier
kept_clocks device (blocking_read len ∷ earlier) = kept_clocks device earlier

-- the least of the three absolute amounts, between four events: the one at `now`, and those at a, b and c before it
abbrev pub least_between : ℕ → ℕ → ℕ → ℕ → ℕ
least_between now a b c =
    let x = clock_diff now a in
    let y = clock_diff a b in
    let z = clock_diff b c in
    min (nat_abs x) (min (nat_abs (x -ℤ y)) (nat_abs ((x -ℤ y) -ℤ (y -ℤ z))))

-- what an event at `now` earns where these are the clocks of the device's kept events before it, newest first: nothing until three of them came
unfoldable pub earned : ℕ → List ℕ → ℕ
earned now [] = 0
earned now (a ∷ []) = 0
earned now (a ∷ b ∷ []) = 0
earned now (a ∷ b ∷ c ∷ older) = estimate (least_between now a b c)

-- a call that earned nothing: both counts and the seeding are as they were, no compression was run, and nothing was added
pub record EarnsNothing (before after : Ledger) (a : Answer) : Type 0 where
  pub input : after.input.count ≡ before.input.count
  pub blocking : after.blocking.count ≡ before.blocking.count
  pub seeding : after.seeding ≡ before.seeding
  pub compressions : a.compressions ≡ 0
  pub added : a.added ≡ 0
