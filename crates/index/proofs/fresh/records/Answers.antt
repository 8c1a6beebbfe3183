use mathlib.Core.Path.{◌≡◌}
use native.Mathlib.Omega.{arith}
use borrow.Author.Rules.{rules}
use Rattle.journal.specs.Layout.{sum}
use Rattle.index.proofs.Six.{sum_is, sum_at_most, sum_small}
use Rattle.index.proofs.fresh.records.Goals as goal

pub sum-requires-clause-fits : goal.sum-requires-clause-fits
sum-requires-clause-fits c = search (rules, sum_small c.args.kinds.now (λ i. omega (arith, c.fits-kinds i)) c.told-kinds)

pub returns : goal.returns
returns c = let all : c.sum.result ≡ sum c.args.kinds.now = rw (← sum_is c.args.kinds.now) (search rules) in
    record { value = all; upper_bound = omega (arith, all, c.told-kinds, sum_at_most c.args.kinds.now (λ i. omega (arith, c.fits-kinds i))) }
