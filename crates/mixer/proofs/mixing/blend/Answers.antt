use Rattle.mixer.proofs.Mixes.{tapped_four}
use Rattle.mixer.proofs.mixing.blend.Goals as goal

pub returns : goal.returns
returns c = rw (c.word_at.ensures, c.word_at-2.ensures, c.word_at-3.ensures, c.word_at-4.ensures, c.word_at-5.ensures) (tapped_four _ _ _ _ _ _ _ _)
