use native.Mathlib.Omega.{arith}
use Rattle.issuing.proofs.Passes.{room_left, no_room}
use borrow.Author.Rules.{rules}
use Rattle.issuing.proofs.remember.remember.Goals as goal

pub returns-then-desk-eq-REMEMBERED : goal.returns-then-desk-eq-REMEMBERED
returns-then-desk-eq-REMEMBERED c = no_room _ _ _ _ c.if-desk-eq-REMEMBERED.true (search rules) c.copy_within.ensures.after c.copy_from_slice.ensures.after

pub returns : goal.returns
returns c = rw c.copy_from_slice-2.ensures.after (room_left _ _ _ c.if-desk-eq-REMEMBERED.false c.requires (omega arith) (search rules) (search rules))
