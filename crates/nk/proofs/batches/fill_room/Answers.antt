use mathlib.Core.Path.{refl}
use native.Mathlib.Omega.{arith}
use Rattle.nk.proofs.Filling.{begun, goes_on, as_roomy, put_line, room_for, ended, full, again}
use Rattle.nk.proofs.batches.fill_room.Goals as goal

pub loop-next-init : goal.loop-next-init
loop-next-init c = begun _ _ _ _ _ _ refl

-- the room is as long as it was
pub overflow_add-end : goal.overflow_add-end
overflow_add-end c = let l = as_roomy _ _ _ _ _ _ _ _ _ _ c.loop-next.invariant _ _ _ _ _ c.take_turn-turn.ensures (omega (arith, c.fits-room)) in
    let r = room_for _ _ _ _ _ _ _ _ _ _ c.loop-next.invariant _ _ _ _ _ c.take_turn-turn.ensures l in
    omega (arith, l, r)

pub returns-in_default : goal.returns-in_default
returns-in_default c = let took = rw c.in_default.is at c.take_turn-turn.ensures in
    let l = as_roomy _ _ _ _ _ _ _ _ _ _ c.loop-next.invariant _ _ _ _ _ took (omega (arith, c.fits-room)) in
    ended _ _ _ _ _ _ _ _ _ _ c.loop-next.invariant _ _ _ _ _ took l _ _ (put_line _ _ _ _ _ _ _ _ _ _ c.loop-next.invariant _ _ _ _ _ took _ l c.copy_from_slice.ensures.after) refl

pub returns-then-count-gt-MOST_BEFORE_A_LINE : goal.returns-then-count-gt-MOST_BEFORE_A_LINE
returns-then-count-gt-MOST_BEFORE_A_LINE c = let took = rw c.in-Some.is at c.take_turn-turn.ensures in
    let l = as_roomy _ _ _ _ _ _ _ _ _ _ c.loop-next.invariant _ _ _ _ _ took (omega (arith, c.fits-room)) in
    full _ _ _ _ _ _ _ _ _ _ c.loop-next.invariant _ _ _ _ _ took l _ _ (put_line _ _ _ _ _ _ _ _ _ _ c.loop-next.invariant _ _ _ _ _ took _ l c.copy_from_slice.ensures.after) refl c.if-count-gt-MOST_BEFORE_A_LINE.true

pub loop-next-smaller : goal.loop-next-smaller
loop-next-smaller c = let h = goes_on _ _ _ _ _ _ _ _ _ _ c.loop-next.invariant _ _ _ _ _ (rw c.in-Some.is at c.take_turn-turn.ensures) refl in
    omega arith

pub loop-next-preserved : goal.loop-next-preserved
loop-next-preserved c = let took = rw c.in-Some.is at c.take_turn-turn.ensures in
    let l = as_roomy _ _ _ _ _ _ _ _ _ _ c.loop-next.invariant _ _ _ _ _ took (omega (arith, c.fits-room)) in
    again _ _ _ _ _ _ _ _ _ _ c.loop-next.invariant _ _ _ _ _ took l _ _ (put_line _ _ _ _ _ _ _ _ _ _ c.loop-next.invariant _ _ _ _ _ took _ l c.copy_from_slice.ensures.after) refl c.if-count-gt-MOST_BEFORE_A_LINE.false
