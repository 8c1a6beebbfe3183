use borrow.Author.Rules.{rules}
use Rattle.listing.proofs.Texts.{sum_is}
use Rattle.listing.proofs.totals.records.Goals as goal

pub returns : goal.returns
returns c = rw (← sum_is c.args.kinds.now) (search rules)
