use mathlib.Core.Path.{refl}
use Rattle.journal.specs.Layout.{sum}
use Rattle.journal.proofs.Laying.{next_field}
use native.Mathlib.Omega.{arith}
use Rattle.journal.proofs.writing.lay_length.Goals as goal

pub returns : goal.returns
unfolding sum
returns c = let length = c.lay_number.ensures in
    let clock = c.lay_clock-length_at.ensures in
    (next_field c.args.room.now _ _ _ _ c.args.kind _ _ _ _ refl clock.0 clock.1 length.0, omega (arith, clock.1, length.1))
