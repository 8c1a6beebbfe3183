use mathlib.Core.Path.{ap, ◌∙◌}
use Rattle.words.specs.Bytes.{le_number}
use Rattle.journal.proofs.Parts.{eight_there}
use Rattle.journal.proofs.fields.eight.Goals as goal

pub returns : goal.returns
returns c = c.u64_of_bytes.ensures ∙ ap le_number (eight_there c.args.j.now c.args.at c.requires)
