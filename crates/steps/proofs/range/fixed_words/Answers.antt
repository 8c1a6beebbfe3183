use native.Mathlib.Omega.{arith}
use Rattle.steps.proofs.Starting.{front_four}
use borrow.Author.Rules.{rules}
use Rattle.steps.proofs.range.fixed_words.Goals as goal

pub bounds-g-0 : goal.bounds-g-0
bounds-g-0 c = search rules

pub bounds-g-1 : goal.bounds-g-1
bounds-g-1 c = search rules

pub bounds-g-2 : goal.bounds-g-2
bounds-g-2 c = search rules

pub bounds-g-3 : goal.bounds-g-3
bounds-g-3 c = search rules

pub returns : goal.returns
returns c = front_four c.args.g (omega arith)
