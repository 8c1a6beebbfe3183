-- Credits and debits, on a count in eighths of a bit.
use Rattle.std.specs.Prelude.{◌&&◌, List, [], ◌∷◌, ℕ, zero, suc, ◌+◌, ◌-◌, ◌*◌, ◌/◌, ◌≤◌, min, max, ltb, eqb}
use Rattle.ledger.specs.Choice.{pick}
use Rattle.ledger.specs.declared.Credited.{Credited}

-- a size that crediting is worked at, and a count that lies in it. Both pools' sizes are such.
pub record Within (S count : ℕ) : Type 0 where
  pub least : 2 ≤ S
  pub most : S ≤ 32768
  pub held : count ≤ S

-- each turn takes min(rest, S/2) of the rest ..
abbrev pub turn_takes : ℕ → ℕ → ℕ
turn_takes S rest = min rest (S / 2)

-- .. and adds floor((S - count) × that × 3 / (4 S)) to the count
abbrev pub turn_adds : ℕ → ℕ → ℕ → ℕ
turn_adds S count rest = (S - count) * turn_takes S rest * 3 / (4 * S)

-- turns go on while the rest is above 0 and the count is below S - 2. The first number bounds how many; proofs/Unrolled.antt shows
-- that it never bites.
unfoldable pub further : ℕ → ℕ → ℕ → ℕ → ℕ
further S zero rest count = count
further S (suc f) rest count =
    let r = further S f (rest - turn_takes S rest) (count + turn_adds S count rest) in
    pick (ltb 0 rest && ltb count (S - 2)) r count

-- the count after crediting n bits to a pool of size S: n = 0 does nothing; otherwise the rest is 8 n, and at least one turn is made
unfoldable pub credited : ℕ → ℕ → ℕ → ℕ
credited S n count =
    pick (eqb n 0) count (further S (8 * n) (8 * n - turn_takes S (8 * n)) (count + turn_adds S count (8 * n)))

-- what a credit gives: the new count and the units added, which are how far the count rose
abbrev pub crediting : ℕ → ℕ → ℕ → Credited
crediting S n count = record { count = credited S n count; added = credited S n count - count }

-- the same turns, told by what each of them adds; proofs/Worth.antt shows that these sum up to the units added
unfoldable pub further_adds : ℕ → ℕ → ℕ → ℕ → List ℕ
further_adds S zero rest count = []
further_adds S (suc f) rest count =
    let more = further_adds S f (rest - turn_takes S rest) (count + turn_adds S count rest) in
    pick (ltb 0 rest && ltb count (S - 2)) (turn_adds S count rest ∷ more) []

unfoldable pub credit_adds : ℕ → ℕ → ℕ → List ℕ
credit_adds S n count =
    let more = further_adds S (8 * n) (8 * n - turn_takes S (8 * n)) (count + turn_adds S count (8 * n)) in
    pick (eqb n 0) [] (turn_adds S count (8 * n) ∷ more)

-- the bytes that a debit takes for k wanted with least m: min(k, floor(count / 64)), or 0 if that is below m
unfoldable pub taken : ℕ → ℕ → ℕ → ℕ
taken k m count = pick (ltb (min k (count / 64)) m) 0 (min k (count / 64))

-- the count after t bytes were taken
abbrev pub debited : ℕ → ℕ → ℕ
debited t count = count - 64 * t

-- a reseed debits for 32 with least 16
abbrev pub reseed_takes : ℕ → ℕ
reseed_takes count = taken 32 16 count

-- a blocking read of n debits the input pool for min(max(n, 8), 128) with least 8
abbrev pub transfer_takes : ℕ → ℕ → ℕ
transfer_takes n count = taken (min (max n 8) 128) 8 count
