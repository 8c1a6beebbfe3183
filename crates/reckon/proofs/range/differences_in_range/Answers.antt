use Rattle.std.proofs.Common.{◌/◌, Bool, ◌&&◌, length, ◌∙◌, ap₂}
use Rattle.ledger.specs.Range.{first_in_range, second_in_range}
use Rattle.reckon.proofs.Tested.{in_parts}
use Rattle.reckon.proofs.range.differences_in_range.Goals as goal

pub returns : goal.returns
returns c =
    let n = length c.args.firsts.now / 2 in
    c.runs_in_range.ensures ∙ ap₂ (λ (a b : Bool). a && b) (in_parts first_in_range n c.args.firsts.now) (in_parts second_in_range n c.args.seconds.now)
