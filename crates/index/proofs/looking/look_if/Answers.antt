use mathlib.Core.Path.{refl, sym, ◌∙◌}
use native.Mathlib.Omega.{arith}
use lib.Seq.{length-take-le}
use Rattle.std.proofs.lemmas.Result.{err_from_is_err_and}
use Rattle.journal.proofs.Refused.{not_0}
use Rattle.index.specs.Calls.{look_refused}
use Rattle.index.proofs.Finding.{kept, laid, few_places}
use Rattle.index.proofs.Refusing.{ends, fits_room, found_index, look_tested, by_journal, by_index, too_many, few_enough}
use Rattle.index.proofs.looking.look_if.Goals as goal

pub returns-in_err-index : goal.returns-in_err-index
unfolding look_refused
returns-in_err-index g c = let a = c.args in
    let p = err_from_is_err_and c.from_residual.result c.from_residual.ensures.1 in
    let both = kept a.room.now a.len a.numbers.now a.answers.now a.found.now _ (not_0 c.in_err-index.field-0.0) in
    rw (p.1, p.2) (record { value = by_journal a.room.now a.len _ c.in_err-index.ensures.value _ _ (not_0 _) ∙ look_tested a.room.now a.len _ c.in_err-index.ensures.value (g.K.Kept.tells a.kept.now) a.numbers.now; answers_after = both.0; found_after = both.1 })

pub returns-then-not-is : goal.returns-then-not-is
unfolding look_refused
returns-then-not-is g c = let a = c.args in
    let known = c.in_ok-index.ensures.value in
    let both = kept a.room.now a.len a.numbers.now a.answers.now a.found.now _ (λ z. omega (arith, z)) in
    record { value = by_index a.room.now a.len _ known _ _ refl (sym c.is.ensures ∙ c.if-not-is.true) ∙ look_tested a.room.now a.len _ known (g.K.Kept.tells a.kept.now) a.numbers.now; answers_after = both.0; found_after = both.1 }

pub returns-then-numbers-gt-NUMBERS : goal.returns-then-numbers-gt-NUMBERS
returns-then-numbers-gt-NUMBERS g c = let a = c.args in
    let known = c.in_ok-index.ensures.value in
    let both = kept a.room.now a.len a.numbers.now a.answers.now a.found.now _ (λ z. omega (arith, z)) in
    record { value = too_many a.room.now a.len _ known _ a.numbers.now refl (sym c.is.ensures ∙ c.if-not-is.false) c.if-numbers-gt-NUMBERS.true ∙ look_tested a.room.now a.len _ known (g.K.Kept.tells a.kept.now) a.numbers.now; answers_after = both.0; found_after = both.1 }

pub version_in-requires : goal.version_in-requires
version_in-requires g c = let a = c.args in
    let f = fits_room a.room.now a.len (sym (ends a.room.now a.len _ c.in_ok-index.ensures.value)) in
    omega (arith, f, c.requires)

pub slice_bounds-find_all-end : goal.slice_bounds-find_all-end
slice_bounds-find_all-end g c = let a = c.args in
    let f = fits_room a.room.now a.len (sym (ends a.room.now a.len _ c.in_ok-index.ensures.value)) in
    sym (length-take-le a.len a.room.now (omega (arith, f, c.requires)))

pub find_all-requires : goal.find_all-requires
find_all-requires g c = let a = c.args in
    let f = fits_room a.room.now a.len (sym (ends a.room.now a.len _ c.in_ok-index.ensures.value)) in
    record { j_len_bound = (omega (arith, f, length-take-le a.len a.room.now (omega (arith, f, c.requires))), few_places c.in_ok-index.index a.len _ c.in_ok-index.ensures.roomy c.records.ensures.value f); numbers_len_bound = c.if-numbers-gt-NUMBERS.false }

pub returns : goal.returns
returns g c = let a = c.args in
    let known = c.in_ok-index.ensures.value in
    let index = found_index a.room.now a.len _ known refl in
    let said = c.find_all.ensures in
    let both = laid a.room.now a.len a.numbers.now _ index _ c.records.ensures.value _ c.version_in.ensures a.answers.now a.found.now _ _ said.answers_after said.found_after in
    record { value = few_enough a.room.now a.len _ known _ a.numbers.now refl (sym c.is.ensures ∙ c.if-not-is.false) c.if-numbers-gt-NUMBERS.false ∙ look_tested a.room.now a.len _ known (g.K.Kept.tells a.kept.now) a.numbers.now; answers_after = both.0; found_after = both.1 }
