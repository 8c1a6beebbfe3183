use Rattle.std.proofs.Common.{ℕ, set, ap}
use Rattle.secure_hash.specs.Ring.{scheduled}
use Rattle.secure_hash.proofs.ring.turn.Goals as goal

pub returns : goal.returns
unfolding scheduled
returns c = ap (λ (x : ℕ). set c.args.w.now c.args.d x) c.rotate_left.ensures
