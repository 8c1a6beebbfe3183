use mathlib.Core.Path.{◌∙◌}
use borrow.Author.Tests.{ne_eqb}
use Rattle.lab.proofs.HexWords.{even_word, odd_word}
use Rattle.lab.proofs.classes.is_hex.Goals as goal

pub returns-then-word-eq0 : goal.returns-then-word-eq0
returns-then-word-eq0 c = c.all_digits.ensures ∙ even_word c.args.word.now c.if-word-eq0.true

pub returns-else-word-eq0 : goal.returns-else-word-eq0
returns-else-word-eq0 c = ne_eqb _ 0 c.if-word-eq0.false ∙ odd_word c.args.word.now c.if-word-eq0.false
