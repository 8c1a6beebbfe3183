use borrow.Author.Rules.{rules}
use native.Mathlib.Omega.{arith}
use Rattle.transcript.specs.Lines.{end_of, end_in}
use Rattle.transcript.proofs.Laws.{longest_end_lem, refuses}
use Rattle.transcript.proofs.Writing.{adds_then, whole}
use Rattle.transcript.proofs.lines.ending.Goals as goal

pub returns : goal.returns
unfolding end_of end_in
returns c = whole (adds_then c.letters.ensures (adds_then c.number.ensures.put c.push.ensures))
    c.args.room.now c.new-text.ensures.room c.new-text.ensures.start _ _ c.len.ensures (search rules) _ (omega arith) (longest_end_lem _)

pub returns-then-room-lt-LONGEST_END : goal.returns-then-room-lt-LONGEST_END
unfolding end_in
returns-then-room-lt-LONGEST_END c = refuses _ _ _ (omega arith)
