use Rattle.journal.proofs.Laying.{first_field}
use native.Mathlib.Omega.{arith}
use Rattle.journal.proofs.writing.lay_clock.Goals as goal

pub returns : goal.returns
returns c = let four = c.lay_number.ensures in
    (first_field c.args.room.now _ c.args.at c.args.kind _ _ four.0, omega (arith, four.1))
