use Rattle.index.specs.Calls.{agrees}
use Rattle.index.proofs.appending.nk_append.Goals as goal

pub returns : goal.returns
unfolding agrees
returns c = record { value = c.append.ensures.value; room_after = c.append.ensures.room_after }
