use mathlib.Core.Path.{refl, sym, ap, ◌∙◌}
use native.Mathlib.Omega.{arith}
use lib.Seq.{sets}
use Rattle.journal.proofs.Refused.{not_0}
use Rattle.index.proofs.Kept.{longer_fits}
use Rattle.index.proofs.Working.{index_or_none}
use Rattle.index.proofs.Longer.{answer, refused_with, done_with}
use Rattle.index.proofs.appending.append.Goals as goal

pub overflow_add-result : goal.overflow_add-result
overflow_add-result g c = omega (arith, longer_fits _ c.args.room.now c.args.len c.args.more.now c.requires (sym c.in-Ok.ensures.number))

pub returns-in-Ok-clause-value : goal.returns-in-Ok-clause-value
returns-in-Ok-clause-value g c = let a = c.args in
    (done_with a.room.now a.len _ a.more.now _ (sym c.in-Ok.ensures.number) _ c.in-Ok.ensures.index (sets a.room.now a.len a.more.now) refl).0

pub returns-in-Err-clause-value : goal.returns-in-Err-clause-value
returns-in-Err-clause-value g c = let a = c.args in
    let own = index_or_none _ _ c.fresh_in-found.ensures.value _ c.unwrap_or.ensures in
    let kept = c.left.ensures ∙ ap (g.K.Kept.left a.kept.now) own in
    (refused_with a.room.now a.len _ a.more.now _ _ (c.number.ensures ∙ c.in-Err.ensures.number) (λ z. not_0 _ (sym c.number.ensures ∙ z)) _ (ap (answer c.number.result a.len) kept)).0
