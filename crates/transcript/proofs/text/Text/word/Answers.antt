use Rattle.transcript.specs.Text.{word_of}
use Rattle.transcript.proofs.Writing.{adds_then}
use Rattle.transcript.proofs.text.Text.word.Goals as goal

pub returns-clause-put : goal.returns-clause-put
unfolding word_of
returns-clause-put c = adds_then c.number.ensures.put c.push.ensures
