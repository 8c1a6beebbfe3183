use mathlib.Core.Path.{sym}
use native.Mathlib.Omega.{arith}
use Rattle.transcript.proofs.Writing.{adds_none, adds_then, adds_as}
use Rattle.listing.specs.Listing.{spaced}
use Rattle.listing.proofs.Texts.{spaced_more}
use Rattle.listing.proofs.row.row.Goals as goal

pub loop-n-init : goal.loop-n-init
unfolding spaced
loop-n-init c = record { so_far = adds_none _; at_most = omega arith }

pub loop-n-preserved : goal.loop-n-preserved
loop-n-preserved c = record {
  so_far = adds_as (sym (spaced_more c.args.numbers.now c.loop-n.n-index c.loop-n-test.true)) (adds_then c.loop-n.invariant.so_far (adds_then c.push.ensures c.large.ensures.put));
  at_most = omega arith;
}
