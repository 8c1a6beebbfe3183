use Rattle.std.proofs.Common.{◌≡◌, ◌-◌, ◌%◌, ◌≤◌, length}
use Rattle.secure_hash.specs.Sha1.{run, schedule}
use Rattle.secure_hash.proofs.Held.{Holds}
use Rattle.secure_hash.proofs.blocks.compress_in.Given as goal

abbrev pub invariant-loop-t : goal.invariant-loop-t
invariant-loop-t l = (l.t ≤ 64) × (l.t % 4 ≡ 0) × (length l.initial.w ≡ 16) × Holds l.initial.w l.t l.w × (l.s ≡ run 0 (schedule l.initial.w 64) l.t l.initial.s)

abbrev pub decreases-loop-t : goal.decreases-loop-t
decreases-loop-t l = 64 - l.t

abbrev pub invariant-loop-t-2 : goal.invariant-loop-t-2
invariant-loop-t-2 l = (64 ≤ l.t) × (l.t ≤ 80) × (l.t % 4 ≡ 0) × (l.s ≡ run 64 l.w (l.t - 64) l.initial.s)

abbrev pub decreases-loop-t-2 : goal.decreases-loop-t-2
decreases-loop-t-2 l = 80 - l.t
