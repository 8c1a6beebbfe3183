use mathlib.Core.Path.{◌≡◌, sym}
use Rattle.std.proofs.Common.{None, rules}
use Rattle.journal.proofs.Onward.{read_ahead}
use Rattle.journal.proofs.Walks.{walk-stop, walk_end}
use Rattle.convert.proofs.Laid.{handed_on, record_fits, past_one, all_laid}
use native.Mathlib.Omega.{arith}
use Rattle.convert.proofs.converting.write_records.Goals as goal

pub put-place-requires : goal.put-place-requires
put-place-requires c = let read = rw c.in-Ok-Some.field-0-is at c.in-Ok-Some.ensures in
    record_fits c.loop-it.invariant _ _ (sym read) _ (handed_on _ _ _ _ _ c.payload.ensures c.carried.ensures) c.requires

pub loop-it-smaller : goal.loop-it-smaller
loop-it-smaller c = let read = rw c.in-Ok-Some.field-0-is at c.in-Ok-Some.ensures in
    let h = read_ahead _ _ _ _ _ (sym read) in
    omega (arith, h.0, h.1)

pub loop-it-preserved : goal.loop-it-preserved
loop-it-preserved c = let read = rw c.in-Ok-Some.field-0-is at c.in-Ok-Some.ensures in
    past_one c.loop-it.invariant _ _ (sym read) _ (handed_on _ _ _ _ _ c.payload.ensures c.carried.ensures) _ _ (c.put-place.ensures.room_after, c.put-place.ensures.value)

pub returns-in_default : goal.returns-in_default
returns-in_default c = let none : c.in_default.field-0 ≡ None = search rules in
    let read = rw (c.in_default.is, none) at c.read.ensures in
    let laid = all_laid c.loop-it.invariant _ (walk_end _ _ _ (sym read)) in
    record { room_after = laid.0; value = laid.1 }

pub returns-in_default-2 : goal.returns-in_default-2
returns-in_default-2 c = let read = rw c.in_default.is at c.read.ensures in
    let laid = all_laid c.loop-it.invariant _ (walk-stop _ _ _ _ (sym read)) in
    record { room_after = laid.0; value = laid.1 }
