-- The sum of a list of counts.
use mathlib.Core.Path.{◌≡◌}
use mathlib.Core.List.{List, [], ◌∷◌}
use Prim.Native.Nat.{ℕ, suc, ◌+◌, ◌*◌, ◌≤◌, ◌<◌}
use native.Mathlib.Omega.{arith}
use lib.ListN.{length, get_or}
use Rattle.std.specs.Prelude.{sum as sum_of, fold}
use Rattle.journal.specs.Layout.{sum}

-- the journal's sum is std's
sum_from : (a : ℕ) (ns : List ℕ) → fold ◌+◌ a ns ≡ a + sum ns
unfolding sum
sum_from a [] = omega arith
sum_from a (n ∷ ns) = omega (arith, sum_from (a + n) ns)

pub sum_is : (ns : List ℕ) → sum_of ns ≡ sum ns
sum_is ns = omega (arith, sum_from 0 ns)

-- and no more than the most that so many counts can be
pub sum_at_most : (ns : List ℕ) → ((i : ℕ) → get_or ns i 0 ≤ 4294967295) → sum ns ≤ 4294967295 * length ns
unfolding sum
sum_at_most [] h = omega arith
sum_at_most (n ∷ ns) h = omega (arith, h 0, sum_at_most ns (λ i. h (suc i)))

pub sum_small : (ns : List ℕ) → ((i : ℕ) → get_or ns i 0 ≤ 4294967295) → length ns ≡ 6 → sum_of ns < 18446744073709551616
sum_small ns h e = omega (arith, e, sum_is ns, sum_at_most ns h)
