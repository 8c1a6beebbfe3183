use Rattle.std.proofs.Common.{refl, arith}
use Rattle.journal.proofs.Parts.{event_kind, off, full}
use Rattle.journal.proofs.records.event.Goals as goal

pub returns-then-j-at : goal.returns-then-j-at
returns-then-j-at c = off _ _ _ _ _ _ _ (event_kind _ _ _) (omega arith) (omega arith)

pub returns : goal.returns
returns c = full _ _ _ _ _ _ _ (event_kind _ _ _) _ _ (cc) refl (omega arith) (omega arith)
