use mathlib.Core.Path.{refl}
use Rattle.std.proofs.lemmas.Result.{err_from_is_err_and}
use Rattle.journal.proofs.Refused.{not_0}
use Rattle.journal.proofs.Walks.{refused}
use Rattle.index.proofs.Working.{fresh_bad, there, nothing_yet, walked_bad, walked_good, still_roomy}
use Rattle.index.proofs.fresh.work_out.Goals as goal

pub returns-in_err-h : goal.returns-in_err-h
returns-in_err-h c = let p = err_from_is_err_and c.from_residual.result c.from_residual.ensures.1 in
    record { value = rw (p.1, p.2) (fresh_bad _ _ (refused _ _ c.in_err-h.ensures (not_0 _)) (not_0 _)); roomy = rw p.1 tt }

pub add_records-requires : goal.add_records-requires
add_records-requires c = record { from_in_bounds = there _ _ c.in_ok-h.ensures refl; roomy = nothing_yet _ _ c.in_ok-h.ensures refl }

pub returns-in_err-add_records : goal.returns-in_err-add_records
returns-in_err-add_records c = let p = err_from_is_err_and c.from_residual-in_err-add_records.result c.from_residual-in_err-add_records.ensures.1 in
    record { value = rw (p.1, p.2) (walked_bad _ _ c.in_ok-h.ensures refl _ c.in_err-add_records.ensures.number_value (not_0 _)); roomy = rw p.1 tt }

pub returns : goal.returns
returns c = let said = c.in_ok-add_records.ensures in
    record { value = walked_good _ _ c.in_ok-h.ensures refl _ said.number_value refl _ said.index_after; roomy = still_roomy _ _ c.in_ok-h.ensures refl _ said.number_value refl _ said.index_after _ refl said.roomy_after }
