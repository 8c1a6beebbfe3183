use borrow.Author.Rules.{rules}
use borrow.Author.Tests.{eq-eqb, ne_eqb}
use Rattle.ledger.specs.Choice.{pick}
use Rattle.mixer.specs.Sizes.{shape_of}
use Rattle.mixer.proofs.mixing.taps_of.Goals as goal

pub returns-then-n-eq-INPUT_WORDS : goal.returns-then-n-eq-INPUT_WORDS
unfolding shape_of pick
returns-then-n-eq-INPUT_WORDS c = record { these = rw (eq-eqb _ _ c.if-n-eq-INPUT_WORDS.true); a_small = search rules; b_small = search rules; c_small = search rules; d_small = search rules }

pub returns-else-n-eq-INPUT_WORDS : goal.returns-else-n-eq-INPUT_WORDS
unfolding shape_of pick
returns-else-n-eq-INPUT_WORDS c = record { these = rw (ne_eqb _ _ c.if-n-eq-INPUT_WORDS.false); a_small = search rules; b_small = search rules; c_small = search rules; d_small = search rules }
