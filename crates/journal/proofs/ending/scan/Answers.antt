use mathlib.Core.Path.{sym, refl}
use Rattle.std.proofs.lemmas.Result.{err_from_is_err_and}
use Rattle.journal.proofs.Refused.{not_0}
use Rattle.journal.proofs.Onward.{read_ahead}
use Rattle.journal.proofs.Walks.{refused, begun, past_one, at-stop, at_end}
use native.Mathlib.Omega.{arith}
use Rattle.journal.proofs.ending.scan.Goals as goal

pub returns-in_err-h : goal.returns-in_err-h
returns-in_err-h c = let p = err_from_is_err_and c.from_residual.result c.from_residual.ensures.1 in
    rw (p.1, p.2) (refused c.args.j.now _ c.in_err-h.ensures (not_0 _))

pub loop-next-init : goal.loop-next-init
loop-next-init c = begun c.args.j.now _ c.in_ok-h.ensures refl

pub returns-in_err-next : goal.returns-in_err-next
returns-in_err-next c = let p = err_from_is_err_and c.from_residual-in_err-next.result c.from_residual-in_err-next.ensures.1 in
    rw (p.1, p.2) (at-stop c.in_ok-h.h.version _ _ c.loop-next.invariant _ (sym c.in_err-next.ensures))

pub loop-next-smaller : goal.loop-next-smaller
loop-next-smaller c = let read = rw c.in-Some.is at c.in_ok-next.ensures in
    let h = read_ahead _ _ _ _ _ (sym read) in
    omega arith

pub loop-next-preserved : goal.loop-next-preserved
loop-next-preserved c = let read = rw c.in-Some.is at c.in_ok-next.ensures in
    past_one _ _ _ c.loop-next.invariant _ _ (sym read)

pub returns : goal.returns
returns c = let read = rw c.in_default.is at c.in_ok-next.ensures in
    at_end _ _ _ c.loop-next.invariant (sym read)
