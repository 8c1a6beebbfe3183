use Rattle.std.proofs.lemmas.Result.{err_from_is_err_and}
use Rattle.journal.proofs.GoodHeader.{said_bad, said_good, version_read}
use Rattle.journal.proofs.Refused.{not_0}
use mathlib.Core.Path.{refl, ◌∙◌}
use Rattle.journal.proofs.heading.header.Goals as goal

pub returns-in_err-refused : goal.returns-in_err-refused
returns-in_err-refused c = let p = err_from_is_err_and c.from_residual.result c.from_residual.ensures.1 in
    rw (p.1, p.2) (said_bad c.args.j.now _ c.in_err-refused.ensures (not_0 _))

pub two-requires : goal.two-requires
two-requires c = version_read c.args.j.now _ c.in_ok-refused.ensures refl

pub returns : goal.returns
returns c = said_good c.args.j.now _ _ c.in_ok-refused.ensures refl (c.from.ensures ∙ c.two.ensures)
