use Rattle.transcript.proofs.Writing.{adds_then}
use Rattle.listing.specs.Listing.{named}
use Rattle.listing.proofs.named.line.Goals as goal

pub returns-clause-put : goal.returns-clause-put
unfolding named
returns-clause-put c = adds_then c.letters.ensures (adds_then c.row.ensures.put c.push.ensures)
