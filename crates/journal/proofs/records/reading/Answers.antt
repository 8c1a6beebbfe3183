use Rattle.std.proofs.Common.{refl, arith, inl, inr}
use Rattle.journal.proofs.Parts.{read_kind, blocking_kind, off, full}
use Rattle.journal.proofs.records.reading.Goals as goal
use Rattle.journal.proofs.records.reading.Goals.{then-kind-eq5, else-kind-eq5}

pub returns-then-j-at-lt7 : goal.returns-then-j-at-lt7
returns-then-j-at-lt7 c v = elim c.requires.kind_value [ inl e ↦ rw e (off v _ _ _ _ _ _ (read_kind v _ _) (omega arith) (omega arith)) | inr e ↦ rw e (off v _ _ _ _ _ _ (blocking_kind v _ _) (omega arith) (omega arith)) ]

pub returns : goal.returns
returns c v =
    elim c.if-kind-eq5.branch [
      | then-kind-eq5 w ↦ rw (w.if-kind-eq5.true) (full v _ _ _ _ _ _ (read_kind v _ _) _ _ (cc) refl (omega arith) (omega arith))
      | else-kind-eq5 w ↦ elim c.requires.kind_value [ inl e ↦ absurd (w.if-kind-eq5.false e) | inr e ↦ rw e (full v _ _ _ _ _ _ (blocking_kind v _ _) _ _ (cc) refl (omega arith) (omega arith)) ]
    ]
