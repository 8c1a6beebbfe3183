use mathlib.Core.Path.{sym, ap}
use Rattle.std.proofs.lemmas.Result.{err_from_is_err_and}
use Rattle.journal.proofs.Onward.{read_ahead}
use Rattle.journal.proofs.Walks.{walk-stop, walk_end}
use Rattle.convert.specs.Passes.{Judged}
use Rattle.convert.proofs.Passing.{past_event, past_other, gone}
use native.Mathlib.Omega.{arith}
use Rattle.convert.proofs.judging.judge.Goals as goal

pub returns-in_err-it : goal.returns-in_err-it
returns-in_err-it c = let p = err_from_is_err_and c.from_residual.result c.from_residual.ensures.1 in
    rw (p.1, p.2) (ap (λ (x : Judged). x.number) (gone c.loop-it.invariant _ (walk-stop _ _ _ _ (sym c.in_err-it.ensures))))

pub overflow_add-events : goal.overflow_add-events
overflow_add-events c = let read = rw c.in-Some.is at c.in_ok-it.ensures in
    let h = read_ahead _ _ _ _ _ (sym read) in
    omega (arith, h.0, h.1, c.loop-it.invariant.few)

pub loop-it-smaller-in-Event : goal.loop-it-smaller-in-Event
loop-it-smaller-in-Event c = let read = rw c.in-Some.is at c.in_ok-it.ensures in
    let h = read_ahead _ _ _ _ _ (sym read) in
    omega (arith, h.0, h.1)

pub loop-it-preserved-in-Event : goal.loop-it-preserved-in-Event
loop-it-preserved-in-Event c = let read = rw c.in-Some.is at c.in_ok-it.ensures in
    let x = c.in-Event.is in
    rw c.devices_in.ensures (past_event c.loop-it.invariant _ _ _ _ _ _ c.in-Event.is (sym read))

pub loop-it-smaller : goal.loop-it-smaller
loop-it-smaller c = let read = rw c.in-Some.is at c.in_ok-it.ensures in
    let h = read_ahead _ _ _ _ _ (sym read) in
    omega (arith, h.0, h.1)

pub loop-it-preserved : goal.loop-it-preserved
loop-it-preserved c = let read = rw c.in-Some.is at c.in_ok-it.ensures in
    past_other c.loop-it.invariant _ _ c.in_default-it.not-Event (sym read)

pub returns : goal.returns
returns c = let read = rw c.in_default.is at c.in_ok-it.ensures in
    gone c.loop-it.invariant _ (walk_end _ _ _ (sym read))
