-- What the texts are made of, piece by piece.
use mathlib.Core.Path.{◌≡◌, refl}
use mathlib.Core.List.{List, [], ◌∷◌, ◌++◌, append_assoc, append-nil}
use Prim.Native.Nat.{ℕ, suc, ◌+◌, ◌<◌}
use native.Mathlib.Omega.{arith}
use lib.ListN.{length, take, get_or}
use lib.Seq.{take-suc}
use Rattle.std.specs.Prelude.{sum as sum_of, fold}
use Rattle.journal.specs.Layout.{sum}
use Rattle.transcript.specs.Text.{digits}
use Rattle.listing.specs.Listing.{spaced}

-- numbers behind others
spaced-append : (ns ms : List ℕ) → spaced (ns ++ ms) ≡ spaced ns ++ spaced ms
unfolding spaced
spaced-append [] ms = refl
spaced-append (n ∷ ns) ms = rw (spaced-append ns ms, append_assoc)

-- one number more
pub spaced_more : (ns : List ℕ) (i : ℕ) → i < length ns → spaced (take (i + 1) ns) ≡ spaced (take i ns) ++ (32 ∷ digits 20 (get_or ns i 0))
unfolding spaced
spaced_more ns i h = let e : i + 1 ≡ suc i = omega arith in rw (e, take-suc ns i 0 h, spaced-append (take i ns) (get_or ns i 0 ∷ []), append-nil)

-- the journal's sum is std's
sum_from : (a : ℕ) (ns : List ℕ) → fold ◌+◌ a ns ≡ a + sum ns
unfolding sum
sum_from a [] = omega arith
sum_from a (n ∷ ns) = omega (arith, sum_from (a + n) ns)

pub sum_is : (ns : List ℕ) → sum_of ns ≡ sum ns
sum_is ns = omega (arith, sum_from 0 ns)
