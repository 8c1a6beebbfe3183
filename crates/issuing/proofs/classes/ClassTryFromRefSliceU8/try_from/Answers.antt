use mathlib.Core.Path.{refl, sym}
use native.Mathlib.Omega.{arith}
use borrow.Author.Rules.{rules}
use Rattle.issuing.proofs.Passes.{class_44, class_4c, class_0, class_long}
use Rattle.issuing.proofs.classes.ClassTryFromRefSliceU8.try_from.Goals as goal

pub returns-in-68 : goal.returns-in-68
returns-in-68 c = class_44 _ (omega arith) (search rules)

pub returns-in-76 : goal.returns-in-76
returns-in-76 c = class_4c _ (omega arith) (search rules)

pub returns-in_default : goal.returns-in_default
returns-in_default c = (sym (class_long _ (λ e. omega (arith, e))), refl)

pub returns-in_default-2 : goal.returns-in_default-2
returns-in_default-2 c = (sym (class_0 _ (omega arith) (search rules) (search rules)), refl)

pub returns-in_default-3 : goal.returns-in_default-3
returns-in_default-3 c = (sym (class_long _ (λ e. omega (arith, e))), refl)
