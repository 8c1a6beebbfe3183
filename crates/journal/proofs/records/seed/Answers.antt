use Rattle.std.proofs.Common.{arith, rules}
use Rattle.journal.specs.Layout.{carries}
use Rattle.journal.proofs.Parts.{seed_kind, off, carried}
use Rattle.journal.proofs.records.seed.Goals as goal

pub returns-then-j-at-lt11 : goal.returns-then-j-at-lt11
returns-then-j-at-lt11 c v = off v _ _ _ _ _ _ (seed_kind v _ _) (omega arith) (omega arith)

pub carry-requires : goal.carry-requires
unfolding carries
carry-requires c = search rules

pub returns : goal.returns
returns c v = carried v _ _ _ _ _ _ (seed_kind v _ _) _ _ _ (cc) (omega arith) (omega arith) c.carry.ensures
