-- `mix_by` meets its contract: the pool as it is, is the pool that the bytes so far have made.
use mathlib.Core.Path.{sym}
use native.Mathlib.Numerals.{add-one}
use lib.Seq.{take-suc, take_all}
use Rattle.mixer.proofs.Mixes.{mixed_none, mixed_then, mixed_all}
use Rattle.mixer.proofs.pools.Pool.mix_by.Goals as goal

pub loop-b-init : goal.loop-b-init
loop-b-init g c = mixed_none _ _ c.place_of-p.ensures.1

pub loop-b-preserved : goal.loop-b-preserved
loop-b-preserved g c = mixed_then _ _ _ _ _ _ _ _ _ (rw add-one (sym (take-suc _ c.loop-b.b-index 0 c.loop-b-test.true))) c.loop-b.invariant c.put-p.ensures

pub returns-clause-pool_after : goal.returns-clause-pool_after
returns-clause-pool_after g c = rw c.args.self.now.as_many at (mixed_all (take_all _ _ c.loop-b-test.false) c.place_of-p.ensures.0 c.spot_of-self.ensures c.loop-b.invariant).0
