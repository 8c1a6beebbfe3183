use Rattle.steps.proofs.Starting.{first_words}
use Rattle.steps.proofs.making.first_words.Goals as goal

pub returns : goal.returns
returns c = cc (first_words c.args.start.now c.requires)
