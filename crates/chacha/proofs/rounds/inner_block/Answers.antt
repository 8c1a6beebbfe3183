use Rattle.std.proofs.Common.{◌≡◌, length, arith}
use Rattle.chacha.proofs.Columns.{double_round}
use Rattle.chacha.proofs.rounds.inner_block.Goals as goal

pub returns : goal.returns
returns c =
    let sixteen : length c.args.s ≡ 16 = omega arith in
    double_round _ _ _ _ _ _ _ _ _ sixteen
    c.quarter-p.ensures c.quarter-q.ensures c.quarter-r.ensures c.quarter-t.ensures
    c.quarter-u.ensures c.quarter-v.ensures c.quarter-w.ensures c.quarter-x.ensures
