use mathlib.Core.Path.{ap, ◌∙◌}
use Rattle.words.specs.Bytes.{le_number}
use Rattle.journal.proofs.Parts.{four_there}
use Rattle.journal.proofs.fields.four.Goals as goal

pub returns : goal.returns
returns c = c.u32_of_bytes.ensures ∙ ap le_number (four_there c.args.j.now c.args.at c.requires)
