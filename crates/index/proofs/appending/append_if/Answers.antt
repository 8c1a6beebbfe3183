use mathlib.Core.Path.{refl, sym, ◌∙◌}
use Rattle.std.proofs.lemmas.Result.{err_from_is_err_and}
use Rattle.journal.proofs.Refused.{not_0}
use Rattle.index.specs.Calls.{append_refused}
use Rattle.index.proofs.Longer.{not_extended, by_the_number}
use Rattle.index.proofs.Refusing.{ends, fits_room, append_tested, by_journal, by_index, by_last}
use Rattle.index.proofs.appending.append_if.Goals as goal

pub returns-in_err-fresh : goal.returns-in_err-fresh
unfolding append_refused
returns-in_err-fresh g c = let a = c.args in
    let p = err_from_is_err_and c.from_residual.result c.from_residual.ensures.1 in
    let known = rw c.in_err-fresh.was at c.requires.found_value in
    rw (p.1, p.2) (not_extended a.room.now a.len a.more.now _ _ (by_journal a.room.now a.len _ known _ _ (not_0 _) ∙ append_tested a.room.now a.len _ known (g.K.Kept.tells a.kept.now) a.more.now))

pub returns-then-not-is : goal.returns-then-not-is
unfolding append_refused
returns-then-not-is g c = let a = c.args in
    let known = rw c.in_ok-fresh.was at c.requires.found_value in
    not_extended a.room.now a.len a.more.now _ _ (by_index a.room.now a.len _ known _ _ refl (sym c.is.ensures ∙ c.if-not-is.true) ∙ append_tested a.room.now a.len _ known (g.K.Kept.tells a.kept.now) a.more.now)

pub extend-requires-clause-room_len : goal.extend-requires-clause-room_len
extend-requires-clause-room_len g c = let a = c.args in
    let known = rw c.in_ok-fresh.was at c.requires.found_value in
    (c.requires.room_len, fits_room a.room.now a.len (sym (ends a.room.now a.len _ known)))

pub returns : goal.returns
unfolding append_refused
returns g c = let a = c.args in
    let known = rw c.in_ok-fresh.was at c.requires.found_value in
    by_the_number (by_last a.room.now a.len _ known _ _ refl (sym c.is.ensures ∙ c.if-not-is.false) ∙ append_tested a.room.now a.len _ known (g.K.Kept.tells a.kept.now) a.more.now) c.extend.ensures
