use Rattle.std.proofs.Common.{◌+◌, ◌∙◌, arith}
use Rattle.secure_hash.proofs.Held.{turned-at, turns_four}
use Rattle.secure_hash.proofs.ring.next_four.Goals as goal

pub returns : goal.returns
returns c = let t = c.args.t in
    turns_four t _ _ _ _ _
    (c.turn.ensures ∙ turned-at t _ _ _ _ _ (omega arith) (omega arith) (omega arith) (omega arith))
    (c.turn-2.ensures ∙ turned-at (t + 1) _ _ _ _ _ (omega arith) (omega arith) (omega arith) (omega arith))
    (c.turn-3.ensures ∙ turned-at (t + 2) _ _ _ _ _ (omega arith) (omega arith) (omega arith) (omega arith))
    (c.turn-4.ensures ∙ turned-at (t + 3) _ _ _ _ _ (omega arith) (omega arith) (omega arith) (omega arith))
