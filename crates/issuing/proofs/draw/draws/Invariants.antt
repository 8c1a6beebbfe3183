use mathlib.Core.Path.{◌≡◌}
use Prim.Native.Nat.{◌-◌}
use Rattle.issuing.specs.Classes.{byte_of}
use Rattle.issuing.specs.Promise.{streaming}
use Rattle.issuing.proofs.Streams.{spent_by}
use Rattle.issuing.proofs.draw.draws.Given as goal

-- what the draws that are left give is what all four give, and the desk has not moved
abbrev pub invariant-loop-repeated : goal.invariant-loop-repeated
invariant-loop-repeated l = (l.desk ≡ l.initial.desk)
    × (streaming (4 - l.repeated) (byte_of l.class) l.initial.desk (spent_by l.repeated l.compressions) l.generator ≡ streaming 4 (byte_of l.class) l.initial.desk (spent_by 0 l.compressions) l.initial.generator)
