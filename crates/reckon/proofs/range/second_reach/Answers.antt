use Rattle.std.proofs.Common.{◌-◌, ◌^◌, ◌&&◌, ap, ◌∙◌, ap₂, arith, to_z-of_z}
use Rattle.ledger.specs.Range.{within}
use Rattle.reckon.proofs.Tested.{or_below, both_sums}
use Rattle.reckon.proofs.range.second_reach.Goals as goal

pub returns : goal.returns
returns c =
    let b = to_z-of_z c.ranges.d in
    or_below 33 c.raised.result c.raised-2.result
    ∙ ap₂ ◌&&◌
    (c.raised.ensures (2 ^ 33) (omega arith) (omega arith) ∙ ap (within (2 ^ 32 - 1) (2 ^ 33 - 1 - (2 ^ 32 - 1))) b)
    (c.raised-2.ensures (2 ^ 33) (omega arith) (omega arith) ∙ ap (within (2 ^ 32) (2 ^ 33 - 1 - 2 ^ 32)) b)
    ∙ both_sums c.args.d
