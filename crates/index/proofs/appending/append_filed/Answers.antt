use Rattle.index.specs.Calls.{file_agrees}
use Rattle.index.proofs.appending.append_filed.Goals as goal

pub returns : goal.returns
unfolding file_agrees
returns c = record { value = c.append.ensures.value; room_after = c.append.ensures.room_after }
