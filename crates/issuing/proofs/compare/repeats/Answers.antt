use mathlib.Core.Path.{sym, ap, ◌∙◌}
use mathlib.Core.List.{List}
use Prim.Native.Nat.{ℕ}
use native.Mathlib.Omega.{arith}
use lib.ListN.{take}
use Rattle.desk.specs.Desks.{among}
use Rattle.issuing.proofs.Passes.{cut, one_met, none_left}
use Rattle.issuing.proofs.compare.repeats.Goals as goal

pub loop-i-preserved : goal.loop-i-preserved
loop-i-preserved c = rw c.same-met.ensures (one_met _ _ _ _ c.loop-i-test.true (omega arith) ∙ c.loop-i.invariant)

pub returns : goal.returns
returns c =
    sym (none_left _ _ _ _ (omega arith)) ∙ c.loop-i.invariant
    ∙ ap (λ (ms : List (List ℕ)). among c.args.number.now (take c.args.desk.now.count ms)) c.as_chunks.ensures.front ∙ ap (among c.args.number.now) (cut _ _ _ (omega arith))
