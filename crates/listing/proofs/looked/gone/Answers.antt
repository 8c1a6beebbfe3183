use Rattle.transcript.proofs.Writing.{adds_then}
use Rattle.listing.specs.Listing.{gone_text}
use Rattle.listing.proofs.looked.gone.Goals as goal

pub returns-clause-put : goal.returns-clause-put
unfolding gone_text
returns-clause-put c = adds_then (rw c.number-why.ensures at c.row.ensures.put) c.push.ensures
