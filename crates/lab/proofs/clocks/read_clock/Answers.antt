use mathlib.Core.Path.{◌≡◌, refl, sym, ◌∙◌}
use Prim.Native.Nat.{ℕ, ◌+◌, ◌-◌, ◌*◌, ◌^◌}
use native.Mathlib.Omega.{arith}
use native.Mathlib.Numerals.{add-one}
use lib.ListN.{get_or}
use borrow.Author.Rules.{rules}
use Rattle.journal.proofs.Sides.{by_less}
use Rattle.lab.proofs.Digits.{none, some, counts, counts_not, another, no_digit, all_read}
use Rattle.lab.proofs.ClockDigits.{next_digit, no_digit_left, no_number, too_large, a_clock}
use Rattle.lab.proofs.clocks.read_clock.Goals as goal

pub returns-then-is_empty : goal.returns-then-is_empty
returns-then-is_empty c = no_number _ (sym (none _ (search rules)))

pub loop-b-init : goal.loop-b-init
loop-b-init c = (some _ (search rules), refl, omega arith)

pub returns-in_err-digit : goal.returns-in_err-digit
returns-in_err-digit c =
    rw c.from_residual.ensures
    (no_number _ (sym c.loop-b.invariant.0 ∙ no_digit c.args.word.now c.loop-b.b-index (omega arith) (counts_not _ c.in_err-digit.ensures)))

pub returns-in_err-checked_mul : goal.returns-in_err-checked_mul
returns-in_err-checked_mul c =
    let n = next_digit c.args.word.now c.loop-b.b-index c.loop-b.value (omega arith) in
    rw c.from_residual-in_err-checked_mul.ensures
    (too_large _ _ _ (sym n ∙ c.loop-b.invariant.1)
    (by_less (c.loop-b.value * 10) (2 ^ 32) (λ l. absurd (c.in_err-checked_mul.ensures l)) (λ g. omega (arith, g))))

pub returns-in_err-value : goal.returns-in_err-value
returns-in_err-value c =
    let n = next_digit c.args.word.now c.loop-b.b-index c.loop-b.value (omega arith) in
    let d = (counts _ _ c.in_ok-digit.ensures).1 in
    let m = c.in_ok-checked_mul.ensures.1 in
    rw c.from_residual-in_err-value.ensures
    (too_large _ _ _ (sym n ∙ c.loop-b.invariant.1)
    (by_less (c.in_ok-checked_mul.field-0 + c.in_ok-digit.digit) (2 ^ 32) (λ l. absurd (c.in_err-value.ensures l)) (λ g. omega (arith, g, d, m))))

pub loop-b-preserved : goal.loop-b-preserved
loop-b-preserved c =
    let d = counts _ _ c.in_ok-digit.ensures in
    let a = another c.args.word.now c.loop-b.b-index (omega arith) 0 d.0 in
    let n = next_digit c.args.word.now c.loop-b.b-index c.loop-b.value (omega arith) in
    let v : c.in_ok-value.value ≡ c.loop-b.value * 10 + (get_or c.args.word.now c.loop-b.b-index 0 - 48) =
    omega (arith, d.1, c.in_ok-checked_mul.ensures.1, c.in_ok-value.ensures.1) in
    (rw add-one (sym a.0 ∙ c.loop-b.invariant.0), rw (add-one, v) (sym n ∙ c.loop-b.invariant.1), omega (arith, c.in_ok-value.ensures.0, c.in_ok-value.ensures.1))

pub returns : goal.returns
returns c =
    let a = all_read c.args.word.now c.loop-b.b-index (omega arith) in
    let d = no_digit_left c.args.word.now c.loop-b.b-index c.loop-b.value (omega arith) in
    a_clock _ _ (sym c.loop-b.invariant.0 ∙ a.0) (sym d ∙ c.loop-b.invariant.1) c.loop-b.invariant.2
