use mathlib.Core.Path.{refl, sym, ap, ◌∙◌}
use lib.Seq.{length-take-le}
use native.Mathlib.Omega.{arith}
use borrow.Author.Tests.{not-false, not-true}
use Rattle.journal.specs.Found.{Heading}
use Rattle.nk.proofs.Texts.{told_none, in_room, next_text, goes_on, told_more, told_all}
use Rattle.nk.proofs.replaying.hand_over_all.Goals as goal

pub refuse-requires : goal.refuse-requires
refuse-requires g c = record { done_value = c.requires; number_value = ap (λ (h : Heading). h.number) c.in-Err.ensures }

pub loop-reader-init : goal.loop-reader-init
loop-reader-init g c = (ap (λ (h : Heading). h.version) c.in-Ok.ensures, told_none _ _ _ _ _ _ _ c.requires c.in-Ok.ensures refl c.payload.ensures c.make_on.ensures)

pub slice_bounds-hand_over-end : goal.slice_bounds-hand_over-end
slice_bounds-hand_over-end g c = let inv = c.loop-reader.invariant in
    let h = in_room _ _ _ _ inv.1 _ inv.0 _ _ _ _ c.fill_room-b.ensures in
    sym (length-take-le _ _ (omega (arith, h)))

pub hand_over-requires : goal.hand_over-requires
hand_over-requires g c = let inv = c.loop-reader.invariant in
    next_text _ _ _ _ inv.1 _ inv.0 _ _ _ _ c.fill_room-b.ensures

pub returns-then-not-b : goal.returns-then-not-b
returns-then-not-b g c = let inv = c.loop-reader.invariant in
    λ e. c.hand_over.ensures ∙ told_all _ _ _ _ inv.1 _ inv.0 _ _ _ _ c.fill_room-b.ensures (not-true _ c.if-not-b.true)

pub loop-reader-smaller : goal.loop-reader-smaller
loop-reader-smaller g c = let inv = c.loop-reader.invariant in
    let h = goes_on _ _ _ _ inv.1 _ inv.0 _ _ _ _ c.fill_room-b.ensures (not-false _ c.if-not-b.false) in
    omega (arith, h.0, h.1)

pub loop-reader-preserved : goal.loop-reader-preserved
loop-reader-preserved g c = let inv = c.loop-reader.invariant in
    (inv.0, rw c.hand_over.ensures (told_more _ _ _ _ inv.1 _ inv.0 _ _ _ _ c.fill_room-b.ensures (not-false _ c.if-not-b.false)))
