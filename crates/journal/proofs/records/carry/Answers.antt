use Rattle.std.proofs.Common.{arith}
use borrow.Author.Tests.{lt-ltb, le-ltb}
use Rattle.ledger.specs.Choice.{pick}
use Rattle.journal.specs.Reading.{carrying}
use Rattle.journal.proofs.records.carry.Goals as goal

ruleset tests = (lt-ltb, le-ltb, arith)

pub returns-then-len-gt-LONGEST : goal.returns-then-len-gt-LONGEST
unfolding carrying pick
returns-then-len-gt-LONGEST c = search (← c.requires.1, tests)

pub returns-then-j-start : goal.returns-then-j-start
unfolding carrying pick
returns-then-j-start c = search (← c.requires.1, tests)

pub returns : goal.returns
unfolding carrying pick
returns c = search (← c.requires.1, tests)
