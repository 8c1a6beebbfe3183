use Rattle.std.proofs.Common.{refl, arith}
use Rattle.journal.proofs.Parts.{interrupt_kind, off, full}
use Rattle.journal.proofs.records.interrupt.Goals as goal

pub returns-then-j-at-lt25 : goal.returns-then-j-at-lt25
returns-then-j-at-lt25 c v = off v _ _ _ _ _ _ (interrupt_kind v _ _) (omega arith) (omega arith)

pub returns : goal.returns
returns c v = full v _ _ _ _ _ _ (interrupt_kind v _ _) _ _ (cc) refl (omega arith) (omega arith)
