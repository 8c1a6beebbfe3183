use mathlib.Core.Path.{refl}
use native.Mathlib.Omega.{arith}
use borrow.Author.Tests.{eq-eqb, ne_eqb}
use Rattle.ledger.specs.Choice.{pick}
use Rattle.lab.specs.Status.{status_of}
use Rattle.lab.proofs.status.status_of.Goals as goal

pub returns-in-0 : goal.returns-in-0
unfolding status_of pick
returns-in-0 c = rw (eq-eqb c.args.number 0 (omega arith)) refl

pub returns-in_default : goal.returns-in_default
unfolding status_of pick
returns-in_default c = rw (ne_eqb c.args.number 0 (λ e. omega (arith, e))) refl
