use Rattle.mixer.proofs.Mixes.{shape_words}
use Rattle.mixer.proofs.mixing.word_at.Goals as goal

pub returns : goal.returns
returns c = rw (c.around.ensures.0, shape_words _ c.requires)
