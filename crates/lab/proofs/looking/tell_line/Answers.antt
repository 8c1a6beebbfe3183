use borrow.Author.Rules.{rules}
use Rattle.transcript.specs.Writing.{Adds}
use Rattle.transcript.proofs.Writing.{adds_then, adds_as, put_whole}
use Rattle.lab.specs.Looks.{look_line}
use Rattle.lab.proofs.LookLines.{line_found, line_gone}
use Rattle.lab.proofs.looking.tell_line.Goals as goal
use Rattle.lab.proofs.looking.tell_line.Goals.{then-answer-eq-DONE, else-answer-eq-DONE}

pub returns-clause-put : goal.returns-clause-put
returns-clause-put c =
    let whole : Adds c.new-text.result c.if-answer-eq-DONE.text (look_line c.args.j.now c.args.name.now c.args.answer c.args.place) =
    elim c.if-answer-eq-DONE.branch [
      | then-answer-eq-DONE w ↦
          rw w.text-is (adds_as (line_found c.args.j.now c.args.place c.args.name.now c.args.answer w.if-answer-eq-DONE.true) (adds_then c.letters.ensures w.tell_record.ensures.put))
      | else-answer-eq-DONE w ↦
          rw w.text-is (adds_as (line_gone c.args.j.now c.args.place c.args.name.now c.args.answer w.if-answer-eq-DONE.false) (adds_then c.letters.ensures w.gone.ensures.put))
    ] in
    put_whole whole c.args.room.now c.new-text.ensures.room c.new-text.ensures.start _ _ c.len.ensures (search rules)
