use mathlib.Core.Path.{sym, ◌∙◌}
use Prim.Native.Nat.{◌-◌, ◌≤◌}
use native.Mathlib.Omega.{arith}
use lib.ListN.{length}
use Rattle.std.proofs.lemmas.Result.{err_from_is_err_and}
use Rattle.journal.specs.Header.{largest}
use Rattle.index.proofs.Longer.{too_long, number_longer, updated_longer, not_extended, extended, roomy_on}
use Rattle.index.proofs.appending.extend.Goals as goal

pub returns-then-more-room : goal.returns-then-more-room
returns-then-more-room c = let a = c.args in
    not_extended a.room.now a.len a.more.now _ _ (too_long a.room.now a.len a.fresh a.more.now c.requires.room_len.0 c.requires.room_len.1 (omega arith))

pub add_records-requires-clause-roomy : goal.add_records-requires-clause-roomy
add_records-requires-clause-roomy c = roomy_on c.args.fresh c.records-count.ensures.value c.requires.roomy

pub returns-in_err-add_records : goal.returns-in_err-add_records
returns-in_err-add_records c = let a = c.args in
    let p = err_from_is_err_and c.from_residual.result c.from_residual.ensures.1 in
    let short : length a.more.now ≤ largest - a.len = omega arith in
    let longer = number_longer a.room.now a.len a.fresh a.more.now c.requires.room_len.0 c.requires.room_len.1 c.requires.len_value short _ c.version_in-version.ensures in
    rw (p.1, p.2) (not_extended a.room.now a.len a.more.now _ _ (c.in_err-add_records.ensures.number_value ∙ sym longer))

pub returns : goal.returns
returns c = let a = c.args in
    let said = c.in_ok-add_records.ensures in
    let version = c.version_in-version.ensures in
    let short : length a.more.now ≤ largest - a.len = omega arith in
    let longer = number_longer a.room.now a.len a.fresh a.more.now c.requires.room_len.0 c.requires.room_len.1 c.requires.len_value short _ version in
    let updated = updated_longer a.room.now a.len a.fresh a.more.now c.requires.room_len.0 c.requires.room_len.1 c.requires.len_value short _ version _ c.records-count.ensures.value in
    extended a.room.now a.len a.more.now _ (longer ∙ sym said.number_value) _ (said.index_after ∙ updated) _ c.lay_bytes.ensures
