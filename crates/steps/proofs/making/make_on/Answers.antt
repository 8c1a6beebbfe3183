use mathlib.Core.Path.{sym, ap}
use Rattle.keeper.proofs.Refusals.{making_48, making_refuses}
use Rattle.steps.specs.Promise.{over, leaves_made}
use Rattle.steps.proofs.making.make_on.Goals as goal

pub returns-then-start-ne-START_BYTES : goal.returns-then-start-ne-START_BYTES
unfolding leaves_made
returns-then-start-ne-START_BYTES c = rw (c.refused.ensures.kept, c.refused.ensures.value) (sym (ap (over _) (making_refuses _ _ c.if-start-ne-START_BYTES.true)))

pub returns : goal.returns
unfolding leaves_made
returns c = rw (c.bare.ensures, c.fresh_ledger-k.ensures, c.first_words-k.ensures) (sym (ap (over _) (making_48 _ _ c.if-start-ne-START_BYTES.false)))
