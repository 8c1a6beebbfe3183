use mathlib.Core.Path.{◌≡◌, refl, sym, ◌∙◌}
use Prim.Native.Nat.{◌+◌}
use native.Mathlib.Omega.{arith}
use native.Mathlib.Numerals.{add-one}
use lib.ListN.{get_or}
use borrow.Author.Rules.{rules}
use Rattle.lab.proofs.Digits.{none, some, counts, counts_not, in_digits, another, no_digit, all_read}
use Rattle.lab.proofs.numbers.number.Goals as goal

pub returns-then-is_empty-clause-is_one : goal.returns-then-is_empty-clause-is_one
returns-then-is_empty-clause-is_one c = none _ (search rules)

pub loop-b-init : goal.loop-b-init
loop-b-init c = (some _ (search rules), refl, omega arith)

pub returns-in_err-digit-clause-is_one : goal.returns-in_err-digit-clause-is_one
returns-in_err-digit-clause-is_one c =
    rw c.from_residual.ensures
    (sym (no_digit c.args.word.now c.loop-b.b-index (omega arith) (counts_not _ c.in_err-digit.ensures)) ∙ c.loop-b.invariant.0)

pub longer-value-requires : goal.longer-value-requires
longer-value-requires c =
    let d = counts _ _ c.in_ok-digit.ensures in
    (omega (arith, d.1, in_digits _ d.0), c.loop-b.invariant.2)

pub loop-b-preserved : goal.loop-b-preserved
loop-b-preserved c =
    let d = counts _ _ c.in_ok-digit.ensures in
    let a = another c.args.word.now c.loop-b.b-index (omega arith) c.loop-b.value d.0 in
    let this : c.in_ok-digit.digit + 48 ≡ get_or c.args.word.now c.loop-b.b-index 0 = omega (arith, d.1, in_digits _ d.0) in
    (rw add-one (sym a.0 ∙ c.loop-b.invariant.0), rw (add-one, c.longer-value.ensures.0, this) (sym a.1 ∙ c.loop-b.invariant.1), c.longer-value.ensures.1)

pub returns-clause-is_one : goal.returns-clause-is_one
returns-clause-is_one c = sym (all_read c.args.word.now c.loop-b.b-index (omega arith)).0 ∙ c.loop-b.invariant.0

pub returns-clause-which : goal.returns-clause-which
returns-clause-which c = sym ((all_read c.args.word.now c.loop-b.b-index (omega arith)).1 c.loop-b.value) ∙ c.loop-b.invariant.1
