use Rattle.std.proofs.Common.{◌%◌, arith}
use Rattle.secure_hash.proofs.Fours.{four_steps}
use Rattle.secure_hash.proofs.steps.of_twenty.Goals as goal

pub returns : goal.returns
returns g c = four_steps c.args.t g.row.P (c.args.t % 16) c.args.w.now _ _ _ _ _ (omega arith) (omega arith)
    c.step-s1.ensures c.step-s2.ensures c.step-s3.ensures c.step.ensures
