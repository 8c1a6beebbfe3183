-- The desk: a count and the last 64 numbers issued, 16 bytes each, oldest first; the places past the count are free.
use Rattle.std.specs.Prelude.{Bool, true, false, ◌&&◌, ◌||◌, List, [], ◌∷◌, ◌++◌, ℕ, zero, suc, ◌+◌, ◌*◌, ltb, leb, eqb, take, drop}
use Rattle.std.proofs.lemmas.List.Edits.{sets}
use Rattle.ledger.specs.Choice.{pick}
use Rattle.desk.specs.Sizes.{remembers, number_bytes}
use Rattle.desk.specs.declared.Desk.{Desk}

abbrev pub desk_of : ℕ → List ℕ → Desk
desk_of count numbers = record { count = count; numbers = numbers }

-- ---- what it remembers
-- the first c numbers that bytes hold
unfoldable pub numbers_in : ℕ → List ℕ → List (List ℕ)
numbers_in zero bs = []
numbers_in (suc c) bs = take number_bytes bs ∷ numbers_in c (drop number_bytes bs)

abbrev pub remembered : Desk → List (List ℕ)
remembered d = numbers_in d.count d.numbers

-- ---- whether it remembers a number
-- the same bytes
unfoldable pub same : List ℕ → List ℕ → Bool
same [] [] = true
same [] (y ∷ ys) = false
same (x ∷ xs) [] = false
same (x ∷ xs) (y ∷ ys) = eqb x y && same xs ys

-- a number is among some
unfoldable pub among : List ℕ → List (List ℕ) → Bool
among n [] = false
among n (m ∷ ms) = same m n || among n ms

-- ---- one number more, behind the others; in a full desk the oldest makes room
unfoldable pub appended : List ℕ → Desk → Desk
appended n d =
    pick (ltb d.count remembers)
    (desk_of (d.count + 1) (sets d.numbers (number_bytes * d.count) n))
    (desk_of d.count (drop number_bytes d.numbers ++ n))

-- ---- a count above 64 is out of range
abbrev pub desk_in_range : Desk → Bool
desk_in_range d = leb d.count remembers
