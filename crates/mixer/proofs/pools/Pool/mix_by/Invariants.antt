use lib.ListN.{take}
use Rattle.mixer.specs.Mixed.{spot_of, Mixed}
use Rattle.mixer.proofs.pools.Pool.mix_by.Given as goal

abbrev pub invariant-loop-b : goal.invariant-loop-b
invariant-loop-b g l = Mixed l.initial.ws (spot_of l.initial.p) (take l.b-index l.bytes) l.ws l.p
