-- A choice by a test, and the first of several reasons to refuse.
use Rattle.std.specs.Prelude.{Bool, true, false, List, [], ◌∷◌, ℕ, eqb}

-- the first where the test holds, else the second
unfoldable pub pick : {A : Type 0} → Bool → A → A → A
pick true a b = a
pick false a b = b

-- the first number that is not 0
unfoldable pub first : List ℕ → ℕ
first [] = 0
first (n ∷ ns) = pick (eqb n 0) (first ns) n
