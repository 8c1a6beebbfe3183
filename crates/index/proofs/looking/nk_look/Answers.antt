use Rattle.index.specs.Calls.{agrees}
use Rattle.index.proofs.looking.nk_look.Goals as goal

pub returns : goal.returns
unfolding agrees
returns c = let told = c.look_if.ensures in
    rw c.number_given.ensures (record { value = told.value; answers_after = told.answers_after; found_after = told.found_after })
