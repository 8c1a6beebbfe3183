-- A record number as a person writes it.
use Rattle.std.specs.Prelude.{ℕ, suc, ◌+◌, ◌-◌, ◌*◌, Bool, true, false, ◌&&◌, List, [], ◌∷◌, leb, ltb, eqb}
use Rattle.ledger.specs.Choice.{pick}

-- decimal digits, at least one, and nothing else; 48 is `0`
unfoldable pub digit : ℕ → Bool
digit b = leb 48 b && leb b 57

unfoldable pub all_digits : List ℕ → Bool
all_digits [] = true
all_digits (b ∷ bs) = pick (digit b) (all_digits bs) false

unfoldable pub is_number : List ℕ → Bool
is_number [] = false
is_number (b ∷ bs) = all_digits (b ∷ bs)

-- the number that digits make behind one that was read; and the same for as long as it is below 100,000, which no record number of a journal reaches
unfoldable pub decimal : ℕ → List ℕ → ℕ
decimal v [] = v
decimal v (b ∷ bs) = decimal (v * 10 + (b - 48)) bs

unfoldable pub onward : ℕ → List ℕ → ℕ
onward v [] = v
onward v (b ∷ bs) = onward (pick (ltb v 100000) (v * 10 + (b - 48)) v) bs

-- how many zeros stand before a number that does not need them
unfoldable pub zeros_before : List ℕ → ℕ
zeros_before [] = 0
zeros_before (b ∷ []) = 0
zeros_before (b ∷ c ∷ bs) = pick (eqb b 48) (suc (zeros_before (c ∷ bs))) 0
