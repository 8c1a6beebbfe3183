-- A blocking read of 1 to 4,096 bytes is refused with 1 exactly if the blocking count is below 64 and the input count below 512; else
-- it delivers at least one byte. Below both thresholds the rule itself would bring nothing over and hand nothing out.
use mathlib.Core.Path.{◌≡◌, refl}
use mathlib.Core.Bool.{Bool, true, false}
use mathlib.Core.Logic.{◌↔◌}
use Prim.Native.Nat.{ℕ, ◌+◌, ◌-◌, ◌*◌, ◌/◌, ◌≤◌, ◌<◌, min, max}
use native.Mathlib.Omega.{arith}
use native.Mathlib.Nat.{mul-le-mul}
use lib.Dec.{ltb}
use borrow.Author.Tests.{lt-ltb, le-ltb, ltb-true, ltb-false, ne_eqb}
use Rattle.ledger.specs.Choice.{pick}
use Rattle.ledger.specs.Credits.{turn_adds, credited, taken}
use Rattle.ledger.specs.Marks.{is_low, Low}
use Rattle.ledger.specs.PublicCalls.{blocking_read}
use Rattle.ledger.specs.Plans.{transferred, refilled, plan_blocking_read, plan_call}
use Rattle.ledger.specs.Range.{View}
use Rattle.ledger.specs.Machine.{planned, step_view}
use Rattle.ledger.specs.declared.Ledger.{Ledger}
use Rattle.ledger.proofs.Picks.{and_left, and_right, both}
use Rattle.ledger.proofs.Crediting.{further_grows, credited_grows}
use Rattle.ledger.proofs.InRange.{Fine, fine_in_range, plan_at_is}

-- the bytes that the rule hands out, before any refusal
abbrev pub handed : ℕ → Ledger → ℕ
handed n l = taken n 0 (refilled (transferred n l) l).count

-- the test of both thresholds, as facts
is_low_lem : (l : Ledger) → is_low l ≡ true → Low l
is_low_lem l h =
    let b = ltb l.blocking.count 64 in
    let i = ltb l.input.count 512 in
    (ltb-true _ _ (and_left b i h), ltb-true _ _ (and_right b i h))

-- and back
low_is : (l : Ledger) → Low l → is_low l ≡ true
low_is l f = both (ltb l.blocking.count 64) (ltb l.input.count 512) (lt-ltb _ _ f.0) (lt-ltb _ _ f.1)

-- a debit takes its least, and a byte at least, where the count has them
taken-some : (k m count : ℕ) → m ≤ k → 64 * m ≤ count → 0 < k → 64 ≤ count → (m ≤ taken k m count) × (0 < taken k m count)
unfolding taken pick
taken-some k m count h g p q = rw (le-ltb (min k (count / 64)) m (omega arith)) (omega arith)

-- eight bytes or more that come over make at least 64 units
eight_are_64 : (t count : ℕ) → 8 ≤ t → count < 64 → 64 ≤ credited 8192 (8 * t) count
unfolding credited pick
eight_are_64 t count h g =
    let r = 8 * (8 * t) in
    let a = min r 4096 in
    let m : 8129 * 512 ≤ (8192 - count) * a = mul-le-mul {n₁ = 8129} {m₁ = 512} (omega arith) (omega arith) in
    let f = further_grows 8192 r (r - a) (count + turn_adds 8192 count r) in
    rw (ne_eqb (8 * t) 0 (λ e. omega arith)) (first (8192 - count) a _ count m f)
  where
    first : (x a y count : ℕ) → 8129 * 512 ≤ x * a → count + x * a * 3 / 32768 ≤ y → 64 ≤ y
    first x a y count m f = omega arith

-- below both thresholds the rule brings nothing over and hands nothing out
pub dry : (n : ℕ) (l : Ledger) → 1 ≤ n → Low l → (transferred n l ≡ 0) × (handed n l ≡ 0)
unfolding taken pick credited
dry n l h f =
    let o : transferred n l ≡ 0 = rw (lt-ltb l.blocking.count (64 * n) (omega arith), lt-ltb (min (min (max n 8) 128) (l.input.count / 64)) 8 (omega arith)) refl in
    (o, rw (o, le-ltb (min n (l.blocking.count / 64)) 0 (omega arith)) (omega arith))

-- else it hands out a byte at least
pub hands : (n : ℕ) (l : Ledger) → 1 ≤ n → is_low l ≡ false → 1 ≤ handed n l
unfolding pick
hands n l h b = go (ltb l.blocking.count 64) refl
  where
    go : (t : Bool) → ltb l.blocking.count 64 ≡ t → 1 ≤ handed n l
    go true e =
        let q = ltb-true l.blocking.count 64 e in
        let i = ltb-false l.input.count 512 (rw e at b) in
        let o : 8 ≤ transferred n l = rw (lt-ltb l.blocking.count (64 * n) (omega arith)) (taken-some (min (max n 8) 128) 8 l.input.count (omega arith) (omega arith) (omega arith) (omega arith)).0 in
        let g = eight_are_64 (transferred n l) l.blocking.count o q in
        (taken-some n 0 (refilled (transferred n l) l).count (omega arith) (omega arith) h (omega arith)).1
    go false e =
        let q = ltb-false l.blocking.count 64 e in
        let g = credited_grows 8192 (8 * transferred n l) l.blocking.count in
        (taken-some n 0 (refilled (transferred n l) l).count (omega arith) (omega arith) h (omega arith)).1

-- below both thresholds the read is refused with 1
pub refused_if : (n : ℕ) (l : Ledger) → 1 ≤ n → n ≤ 4096 → Low l → (plan_blocking_read n l).number ≡ 1
unfolding plan_blocking_read pick
refused_if n l h k f = rw (le-ltb 4096 n k, ne_eqb n 0 (λ e. omega arith), low_is l f)

-- where the test of both thresholds fails, the answer is 0 and a byte at least is delivered
unblocked : (n : ℕ) (l : Ledger) → 1 ≤ n → n ≤ 4096 → is_low l ≡ false → ((plan_blocking_read n l).number ≡ 0) × (1 ≤ (plan_blocking_read n l).deliver)
unfolding plan_blocking_read pick
unblocked n l h k b = rw (le-ltb 4096 n k, ne_eqb n 0 (λ e. omega arith), b) (refl, hands n l h b)

-- the same, where one of the two counts is at its threshold
pub flows : (n : ℕ) (l : Ledger) → 1 ≤ n → n ≤ 4096 → (Low l → ⊥) → ((plan_blocking_read n l).number ≡ 0) × (1 ≤ (plan_blocking_read n l).deliver)
flows n l h k f = go (is_low l) refl
  where
    go : (t : Bool) → is_low l ≡ t → ((plan_blocking_read n l).number ≡ 0) × (1 ≤ (plan_blocking_read n l).deliver)
    go true e = absurd (f (is_low_lem l e))
    go false e = unblocked n l h k e

-- a read that is refused with 1 misses both thresholds
pub refused_only_if : (n : ℕ) (l : Ledger) → 1 ≤ n → n ≤ 4096 → (plan_blocking_read n l).number ≡ 1 → Low l
refused_only_if n l h k r = go (is_low l) refl
  where
    go : (t : Bool) → is_low l ≡ t → Low l
    go true e = is_low_lem l e
    go false e = let z = (unblocked n l h k e).0 in absurd (omega arith)

-- on a record in range, a blocking read shows that plan's number, and delivers what it says
pub shown : (n : ℕ) (v : View) → Fine v → ((step_view v (blocking_read n)).answer.number ≡ (plan_blocking_read n v.ledger).number) × ((plan_blocking_read n v.ledger).deliver ≤ (step_view v (blocking_read n)).answer.delivered)
unfolding step_view planned pick plan_call
shown n v f = rw (plan_at_is v (blocking_read n), fine_in_range v f) (refl, omega arith)

-- the paper's sentence, of a keeper in range: refused with 1 exactly if both thresholds are missed
pub blocking_exact : (n : ℕ) (v : View) → 1 ≤ n → n ≤ 4096 → Fine v → ((step_view v (blocking_read n)).answer.number ≡ 1) ↔ Low v.ledger
blocking_exact n v h k f =
    let s = shown n v f in
    (λ e. refused_only_if n v.ledger h k (cc), λ g. let r = refused_if n v.ledger h k g in cc)

-- .. and else answered 0, with a byte at least
pub blocking_flows : (n : ℕ) (v : View) → 1 ≤ n → n ≤ 4096 → Fine v → (Low v.ledger → ⊥) → ((step_view v (blocking_read n)).answer.number ≡ 0) × (1 ≤ (step_view v (blocking_read n)).answer.delivered)
blocking_flows n v h k f g =
    let s = shown n v f in
    let r = flows n v.ledger h k g in
    (cc, omega arith)
