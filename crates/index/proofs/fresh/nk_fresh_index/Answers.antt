use Rattle.index.proofs.Updating.{of_none}
use Rattle.index.proofs.fresh.nk_fresh_index.Goals as goal

pub returns-in-Err : goal.returns-in-Err
returns-in-Err c = rw (c.number.ensures, of_none) c.in-Err.ensures.value
