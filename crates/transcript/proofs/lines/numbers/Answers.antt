use Rattle.transcript.proofs.Writing.{adds_then}
use Rattle.transcript.proofs.lines.numbers.Goals as goal

pub returns-clause-put : goal.returns-clause-put
returns-clause-put c =
    adds_then c.word.ensures.put
    (adds_then c.word-2.ensures.put
    (adds_then c.word-3.ensures.put
    (adds_then c.word-4.ensures.put
    (adds_then c.word-5.ensures.put
    (adds_then c.word-6.ensures.put c.number.ensures.put)))))
