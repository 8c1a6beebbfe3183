use Rattle.mixer.proofs.Blocks.{bytes_folded}
use Rattle.mixer.proofs.extracting.folded.Goals as goal

pub returns : goal.returns
returns c = bytes_folded c.args.h _ _ _ _ c.bytes_of_u32-a.ensures c.bytes_of_u32-b.ensures c.rotate_left.ensures c.bytes_of_u32-c.ensures
