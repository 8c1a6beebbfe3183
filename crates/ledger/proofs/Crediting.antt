-- What crediting and debiting can do to a count: a credit never lowers it, adds at most 6 units a bit and stays within the size; a
-- debit takes no more than is wanted and no more than there is.
use Prim.Native.Nat.{ℕ, zero, suc, ◌+◌, ◌-◌, ◌*◌, ◌/◌, ◌≤◌, ◌<◌, min}
use mathlib.Core.Bool.{Bool, ◌&&◌}
use native.Mathlib.Omega.{arith}
use native.Mathlib.Nat.{mul-div-le, mul-le-mul_left, mul-le-mul_right, le_of_mul-le-mul_left}
use lib.Dec.{ltb}
use Rattle.ledger.specs.Choice.{pick}
use Rattle.ledger.specs.Credits.{turn_takes, turn_adds, further, credited, taken}
use Rattle.ledger.proofs.Picks.{pick_both}

-- a turn adds at most three quarters of what it takes
pub turn_bound : (S count rest : ℕ) → 0 < S → 4 * turn_adds S count rest ≤ 3 * turn_takes S rest
turn_bound S count rest h =
    let a = min rest (S / 2) in
    let q = (S - count) * a * 3 / (4 * S) in
    let e : 4 * S * q ≤ (S - count) * a * 3 = mul-div-le _ (4 * S) in
    let f : (S - count) * a ≤ S * a = mul-le-mul_right a (omega arith) in
    le_of_mul-le-mul_left {k = S} (omega (arith, e, f)) h

-- a turn adds no more than there is room for
pub turn_room : (S count rest : ℕ) → 0 < S → turn_adds S count rest ≤ S - count
turn_room S count rest h =
    let a = min rest (S / 2) in
    let q = (S - count) * a * 3 / (4 * S) in
    let e : 4 * S * q ≤ (S - count) * a * 3 = mul-div-le _ (4 * S) in
    let f : (S - count) * (a * 3) ≤ (S - count) * (4 * S) = mul-le-mul_left (S - count) (omega arith) in
    le_of_mul-le-mul_left {k = 4 * S} (omega (arith, e, f)) (omega arith)

-- further turns never lower a count
pub further_grows : (S f rest count : ℕ) → count ≤ further S f rest count
unfolding further
further_grows S zero rest count = omega arith
further_grows S (suc f) rest count =
    pick_both (λ n. count ≤ n) (ltb 0 rest && ltb count (S - 2)) (omega (arith, further_grows S f (rest - turn_takes S rest) (count + turn_adds S count rest))) (omega arith)

-- further turns add at most three quarters of the rest
pub further_bound : (S f rest count : ℕ) → 0 < S → 4 * further S f rest count ≤ 4 * count + 3 * rest
unfolding further
further_bound S zero rest count h = omega arith
further_bound S (suc f) rest count h =
    pick_both (λ n. 4 * n ≤ 4 * count + 3 * rest) (ltb 0 rest && ltb count (S - 2))
    (omega (arith, further_bound S f (rest - turn_takes S rest) (count + turn_adds S count rest) h, turn_bound S count rest h))
    (omega arith)

-- further turns stay within the size
pub further-room : (S f rest count : ℕ) → 0 < S → count ≤ S → further S f rest count ≤ S
unfolding further
further-room S zero rest count h k = k
further-room S (suc f) rest count h k =
    pick_both (λ n. n ≤ S) _ (further-room S f (rest - turn_takes S rest) (count + turn_adds S count rest) h (omega (arith, turn_room S count rest h))) k

-- a credit never lowers a count
pub credited_grows : (S n count : ℕ) → count ≤ credited S n count
unfolding credited
credited_grows S n count =
    pick_both (λ c. count ≤ c) _ (omega arith) (omega (arith, further_grows S (8 * n) (8 * n - turn_takes S (8 * n)) (count + turn_adds S count (8 * n))))

-- a credit of n bits adds at most 6 n units
pub credited_bound : (S n count : ℕ) → 0 < S → credited S n count ≤ count + 6 * n
unfolding credited
credited_bound S n count h =
    pick_both (λ c. c ≤ count + 6 * n) _ (omega arith)
    (omega (arith, further_bound S (8 * n) (8 * n - turn_takes S (8 * n)) (count + turn_adds S count (8 * n)) h, turn_bound S count (8 * n) h))

-- a credit stays within the size
pub credited-room : (S n count : ℕ) → 0 < S → count ≤ S → credited S n count ≤ S
unfolding credited
credited-room S n count h k =
    pick_both (λ c. c ≤ S) _ k (further-room S (8 * n) (8 * n - turn_takes S (8 * n)) (count + turn_adds S count (8 * n)) h (omega (arith, turn_room S count (8 * n) h)))

-- a debit takes no more than there is
pub taken_fits : (k m count : ℕ) → 64 * taken k m count ≤ count
unfolding taken
taken_fits k m count = pick_both (λ n. 64 * n ≤ count) _ (omega arith) (omega arith)

-- a debit takes no more than is wanted
pub taken_wanted : (k m count : ℕ) → taken k m count ≤ k
unfolding taken
taken_wanted k m count = pick_both (λ n. n ≤ k) _ (omega arith) (omega arith)

-- a debit that may not happen takes no more than there is
pub debit_fits : (t : Bool) (k m count : ℕ) → 64 * pick t (taken k m count) 0 ≤ count
debit_fits t k m count = pick_both (λ n. 64 * n ≤ count) t (taken_fits k m count) (omega arith)
