use mathlib.Core.Path.{sym, ap}
use Rattle.pool.specs.Extracting.{Extract}
use Rattle.mixer.specs.Pools.{pool_of}
use Rattle.flows.proofs.Laid.{none_out, onto_none}
use Rattle.flows.proofs.reseed.Goals as goal

pub returns-then-t-eq0-clause-pool_after : goal.returns-then-t-eq0-clause-pool_after
returns-then-t-eq0-clause-pool_after g c = ap (λ (x : Extract). x.pool) (none_out _ c.args.t (pool_of c.args.pool.now) c.if-t-eq0.true)

pub returns-then-t-eq0-clause-g_after : goal.returns-then-t-eq0-clause-g_after
returns-then-t-eq0-clause-g_after g c = onto_none _ _ (ap (λ (x : Extract). x.bytes) (sym (none_out _ c.args.t (pool_of c.args.pool.now) c.if-t-eq0.true)))
