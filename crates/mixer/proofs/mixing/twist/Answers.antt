use mathlib.Core.Path.{refl, ap}
use native.Mathlib.Omega.{arith}
use lib.ListN.{length}
use Rattle.pool.specs.Mixing.{twisted}
use Rattle.mixer.proofs.mixing.twist.Goals as goal

pub bounds-table-k : goal.bounds-table-k
bounds-table-k c = let l = ap length c.requires in
    omega (arith, l)

pub returns : goal.returns
unfolding twisted
returns c = rw c.requires refl
