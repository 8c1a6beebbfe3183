use borrow.Author.Rules.{rules}
use native.Mathlib.Omega.{arith}
use Rattle.transcript.specs.Lines.{line_of, line_in}
use Rattle.transcript.proofs.Laws.{longest, refuses}
use Rattle.transcript.proofs.Writing.{adds_then, whole}
use Rattle.transcript.proofs.lines.line.Goals as goal

pub returns-then-room-lt-LONGEST_BARE : goal.returns-then-room-lt-LONGEST_BARE
unfolding line_in
returns-then-room-lt-LONGEST_BARE c = refuses _ _ _ (omega arith)

pub returns : goal.returns
unfolding line_of line_in
returns c = whole (adds_then c.numbers.ensures.put (adds_then c.tail.ensures.put c.push.ensures))
    c.args.room.now c.new-text.ensures.room c.new-text.ensures.start _ _ c.len.ensures (search rules) _ (omega arith) (longest _ _ _ _)
