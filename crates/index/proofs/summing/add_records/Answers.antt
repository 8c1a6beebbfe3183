use mathlib.Core.Path.{sym}
use Rattle.std.proofs.lemmas.Result.{err_from_is_err_and}
use Rattle.journal.proofs.Walks.{walk-stop, walk_end}
use Rattle.journal.proofs.Onward.{read_ahead}
use Rattle.index.proofs.Records.{narrow}
use Rattle.index.proofs.Going.{begin, records_few, going_on, gone}
use native.Mathlib.Omega.{arith}
use Rattle.index.proofs.summing.add_records.Goals as goal

pub loop-it-init : goal.loop-it-init
loop-it-init c = begin _ _ _ _ _ _ c.requires.from_in_bounds.0 c.requires.roomy

pub returns-in_err-it : goal.returns-in_err-it
returns-in_err-it c = let p = err_from_is_err_and c.from_residual.result c.from_residual.ensures.1 in
    let all = gone c.loop-it.invariant _ (walk-stop _ _ _ _ (sym c.in_err-it.ensures)) in
    record { number_value = rw (p.1, p.2) all.0; index_after = all.1.0; roomy_after = all.1.1 }

pub add-requires : goal.add-requires
add-requires c = let few = records_few c.loop-it.invariant c.requires.from_in_bounds.1 in
    let read = rw c.in-Some.is at c.in_ok-it.ensures in
    let a = narrow _ c.args.j.now _ _ _ (λ x. omega (arith, c.type_inv.j x)) (sym read) in
    record { count_bound = (few, omega (arith, c.loop-it.invariant.within, c.requires.from_in_bounds.1)); few = c.loop-it.invariant.roomy.few; narrow = omega (arith, few, a, c.loop-it.invariant.roomy.narrow) }

pub loop-it-smaller : goal.loop-it-smaller
loop-it-smaller c = let read = rw c.in-Some.is at c.in_ok-it.ensures in
    let h = read_ahead _ _ _ _ _ (sym read) in
    omega (arith, h.0, h.1)

pub loop-it-preserved : goal.loop-it-preserved
loop-it-preserved c = let read = rw c.in-Some.is at c.in_ok-it.ensures in
    going_on c.loop-it.invariant _ _ (sym read) (λ x. omega (arith, c.type_inv.j x)) _ (c.add.ensures _)

pub returns : goal.returns
returns c = let read = rw c.in_default.is at c.in_ok-it.ensures in
    let all = gone c.loop-it.invariant _ (walk_end _ _ _ (sym read)) in
    record { number_value = all.0; index_after = all.1.0; roomy_after = all.1.1 }
