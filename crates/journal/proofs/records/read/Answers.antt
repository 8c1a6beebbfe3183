use Rattle.std.proofs.Common.{sym, refl, arith}
use Rattle.journal.proofs.Cut.{past}
use Rattle.journal.proofs.Parts.{of_kind_lem, other}
use Rattle.journal.proofs.records.read.Goals as goal

pub returns-then-j-at : goal.returns-then-j-at
returns-then-j-at c = sym (past _ _ _ c.if-j-at.true)

pub returns-in-1 : goal.returns-in-1
returns-in-1 c = of_kind_lem _ _ _ 1 _ (omega arith) (search) c.event.ensures

pub returns-in-2 : goal.returns-in-2
returns-in-2 c = of_kind_lem _ _ _ 2 _ (omega arith) (search) (c.interrupt.ensures _)

pub returns-in-3 : goal.returns-in-3
returns-in-3 c = of_kind_lem _ _ _ 3 _ (omega arith) (search) (c.write.ensures _)

pub returns-in-4 : goal.returns-in-4
returns-in-4 c = of_kind_lem _ _ _ 4 _ (omega arith) (search) (c.seed.ensures _)

pub returns-in-5 : goal.returns-in-5
returns-in-5 c = of_kind_lem _ _ _ 5 _ (omega arith) (search) (c.reading.ensures _)

pub returns-in-6 : goal.returns-in-6
returns-in-6 c = of_kind_lem _ _ _ 6 _ (omega arith) (search) (c.reading-in-6.ensures _)

pub returns-in_default : goal.returns-in_default
returns-in_default c = of_kind_lem _ _ _ _ _ (omega arith) refl (search other)
