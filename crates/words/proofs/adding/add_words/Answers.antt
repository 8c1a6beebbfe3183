use Rattle.std.proofs.Common.{◌≡◌, length, refl, add-one, arith}
use Rattle.words.specs.Words.{add}
use Rattle.words.proofs.Sums.{part, part_suc, part_all}
use Rattle.words.proofs.adding.add_words.Goals as goal

pub loop-i-init : goal.loop-i-init
unfolding part
loop-i-init g c = refl

pub loop-i-preserved : goal.loop-i-preserved
loop-i-preserved g c = rw (add-one, c.loop-i.invariant) (part_suc add c.loop-i.i c.args.t c.args.s (omega arith) (omega arith))

pub returns : goal.returns
returns g c = let e : c.loop-i.i ≡ length c.args.t = omega arith in
    rw (c.loop-i.invariant, e) (part_all add c.args.t c.args.s (omega arith))
