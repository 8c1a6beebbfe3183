use mathlib.Core.Path.{◌≡◌}
use Prim.Native.Nat.{◌-◌, ◌/◌, ◌%◌}
use lib.ListN.{length, drop}
use Rattle.secure_hash.specs.Sha1.{initial_hash}
use Rattle.ledger.specs.Shapes.{rounds}
use Rattle.pool.specs.Extracting.{hashed}
use Rattle.mixer.specs.Sizes.{shape_of}
use Rattle.mixer.proofs.extracting.hash_pool.Given as goal

abbrev pub invariant-loop-k : goal.invariant-loop-k
invariant-loop-k l = record {
  whole : l.k % 16 ≡ 0;
  left : (hashed ((length l.ws - l.k) / 16) l.h (drop l.k l.ws)).words ≡ (hashed (rounds (shape_of (length l.ws))) initial_hash l.ws).words;
}

abbrev pub decreases-loop-k : goal.decreases-loop-k
decreases-loop-k l = length l.ws - l.k
