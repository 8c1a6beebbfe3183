use mathlib.Core.Path.{refl}
use Rattle.mixer.proofs.Mixes.{put_byte}
use Rattle.mixer.proofs.mixing.put.Goals as goal

pub returns : goal.returns
returns c = put_byte _ _ _ _ _ _ _ _ _ c.requires.stands c.requires.taps_of c.around-at.ensures.0 c.turned-turn.ensures.0 refl c.rotate_left.ensures c.blend-w.ensures c.twist.ensures c.twist-2.ensures
