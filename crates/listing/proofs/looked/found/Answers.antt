use Rattle.transcript.proofs.Writing.{adds_then}
use Rattle.listing.specs.Listing.{found_text}
use Rattle.listing.proofs.looked.found.Goals as goal

pub returns-clause-put : goal.returns-clause-put
unfolding found_text
returns-clause-put c = adds_then c.numbers.ensures.put (adds_then c.tail.ensures.put c.push.ensures)
