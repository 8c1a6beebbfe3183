use Rattle.transcript.proofs.Laws.{glyph_sum}
use Rattle.transcript.proofs.text.glyph.Goals as goal

pub returns : goal.returns
returns c = glyph_sum _ c.requires
