use mathlib.Core.Path.{◌≡◌, refl, sym, ◌∙◌}
use Prim.Native.Nat.{◌-◌}
use native.Mathlib.Omega.{arith}
use Rattle.journal.proofs.Onward.{read_ahead}
use Rattle.index.proofs.Passing.{passed-stop, passed_end, one_fewer, none_left}
use Rattle.index.proofs.looking.move_on.Goals as goal

pub loop-i-init : goal.loop-i-init
loop-i-init c = let z : c.args.n - 0 ≡ c.args.n = omega arith in
    (rw z refl, omega arith)

pub loop-i-preserved : goal.loop-i-preserved
loop-i-preserved c = let e = rw c.in-Some.is at c.in_ok-next.ensures in
    let h = (read_ahead _ _ _ _ _ (sym e)).1 in
    (one_fewer _ _ _ _ _ _ _ _ (omega arith) (sym e) c.loop-i.invariant.0, omega (arith, h))

-- the records end here
pub returns-in_default : goal.returns-in_default
returns-in_default c = let e = rw c.in_default.is at c.in_ok-next.ensures in
    record { value = sym (passed_end _ _ _ _ (sym e)) ∙ c.loop-i.invariant.0; upper_bound = c.loop-i.invariant.1 }

-- .. or break off
pub returns-in_err-next-clause-value : goal.returns-in_err-next-clause-value
returns-in_err-next-clause-value c = sym (passed-stop _ _ _ _ _ (sym c.in_err-next.ensures)) ∙ c.loop-i.invariant.0

pub returns : goal.returns
returns c = record { value = none_left _ _ _ _ _ _ (omega arith) c.loop-i.invariant.0; upper_bound = c.loop-i.invariant.1 }
