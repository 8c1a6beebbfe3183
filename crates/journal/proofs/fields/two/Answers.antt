use mathlib.Core.Path.{ap, ◌∙◌}
use Rattle.words.specs.Bytes.{le_number}
use Rattle.journal.proofs.Parts.{two_there}
use Rattle.journal.proofs.fields.two.Goals as goal

pub returns : goal.returns
returns c = c.u16_of_bytes.ensures ∙ ap le_number (two_there c.args.j.now c.args.at c.requires)
