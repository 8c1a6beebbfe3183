use borrow.Author.Rules.{rules}
use Rattle.transcript.proofs.Writing.{adds_then, put_whole}
use Rattle.numbering.specs.Lines.{issued_line}
use Rattle.numbering.proofs.lines.line_of.Goals as goal

pub returns-clause-put : goal.returns-clause-put
unfolding issued_line
returns-clause-put c = put_whole
    (adds_then c.word.ensures.put (adds_then c.word-2.ensures.put (adds_then c.number.ensures.put (adds_then c.tail.ensures.put c.push.ensures))))
    c.args.room.now c.new-text.ensures.room c.new-text.ensures.start _ _ c.len.ensures (search rules)
