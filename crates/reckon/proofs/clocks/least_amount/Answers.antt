use Rattle.std.proofs.Common.{◌-ℤ◌, arith, to_z-of_z, w64, SFits, rules}
use Rattle.ledger.specs.Choice.{pick}
use Rattle.ledger.specs.Clocks.{signed}
use Rattle.reckon.proofs.Estimates.{least_of_next}
use Rattle.reckon.proofs.clocks.least_amount.Goals as goal

pub returns : goal.returns
unfolding signed pick
returns c =
    -- the four differences are read back as they are
    let first : SFits w64 c.next_timer-u.result.d1 = search rules in
    let second : SFits w64 c.next_timer-u.result.d2 = search rules in
    let before : SFits w64 c.args.t.d2 = search rules in
    let third : SFits w64 (c.next_timer-u.result.d2 -ℤ c.args.t.d2) = search rules in
    rw (← least_of_next c.args.now c.args.t c.next_timer-u.result c.next_timer-u.ensures)
    (omega (arith, simp to_z-of_z at c.unsigned_abs.ensures.value, simp to_z-of_z at c.unsigned_abs-2.ensures.value, simp to_z-of_z at c.unsigned_abs-3.ensures.value))
