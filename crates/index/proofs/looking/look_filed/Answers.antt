use Rattle.index.specs.Calls.{file_agrees}
use Rattle.index.proofs.looking.look_filed.Goals as goal

pub returns : goal.returns
unfolding file_agrees
returns c = let told = c.look_if.ensures in
    rw c.number_given.ensures (record { value = told.value; answers_after = told.answers_after; found_after = told.found_after })
