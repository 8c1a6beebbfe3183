use mathlib.Core.Path.{ap₂, ◌∙◌}
use lib.Dec.{eqb}
use Rattle.issuing.proofs.Halves.{same_words}
use borrow.Author.Rules.{rules}
use Rattle.issuing.proofs.compare.same.Goals as goal

pub returns : goal.returns
returns c = ap₂ eqb c.from_le_bytes.ensures c.from_le_bytes-2.ensures ∙ same_words _ _ (search rules) (search rules) (search rules) (search rules)
