-- Clocks, their differences, and the estimate.
use Rattle.std.specs.Prelude.{Bool, false, ℕ, zero, suc, ◌+◌, ◌-◌, ◌/◌, ◌%◌, ◌^◌, min, ltb, eqb, ℤ, pos, negsuc, ◌-ℤ◌, nat_abs}
use Rattle.std.proofs.Math.IntN.{sub_ℕ}
use Rattle.ledger.specs.Choice.{pick}
use Rattle.ledger.specs.Sizes.{events_before}
use Rattle.ledger.specs.declared.Timer.{Timer}

-- a number of 32 bits read as signed, -2^31 to 2^31 - 1
unfoldable pub signed : ℕ → ℤ
signed x = pick (ltb x (2 ^ 31)) (pos x) (sub_ℕ x (2 ^ 32))

-- a difference of clocks, modulo 2^32 and read as signed
abbrev pub clock_diff : ℕ → ℕ → ℤ
clock_diff now before = signed ((now + 2 ^ 32 - before) % 2 ^ 32)

-- a signed amount exceeds n; one below 0 does not
abbrev pub exceeds : ℤ → ℕ → Bool
exceeds (pos x) n = ltb n x
exceeds (negsuc x) n = false

-- one more kept event of a device came; they are counted up to three
abbrev pub came_after : ℕ → ℕ
came_after n = min events_before (n + 1)

-- what is kept of an event: its clock, the first difference, the second, which is exact, and that it came
abbrev pub next_timer : ℕ → Timer → Timer
next_timer now t =
    let d = clock_diff now t.clock in
    record { clock = now; d1 = d; d2 = d -ℤ t.d1; came = came_after t.came }

-- the third difference, exact too
abbrev pub third : ℕ → Timer → ℤ
third now t = (next_timer now t).d2 -ℤ t.d2

-- the least of the three absolute amounts
abbrev pub least_amount : ℕ → Timer → ℕ
least_amount now t = min (nat_abs (next_timer now t).d1) (min (nat_abs (next_timer now t).d2) (nat_abs (third now t)))

-- floor of log2 of a number above 0; the first number bounds the answer
unfoldable pub log2 : ℕ → ℕ → ℕ
log2 zero m = 0
log2 (suc f) m = let r = log2 f (m / 2) in pick (ltb m 2) 0 (suc r)

-- the credit for a least amount of m: 0 if m = 0, else min(11, floor of log2 m)
unfoldable pub estimate : ℕ → ℕ
estimate m = pick (eqb m 0) 0 (min 11 (log2 64 m))

-- the estimate of an event
abbrev pub estimated : ℕ → Timer → ℕ
estimated now t = estimate (least_amount now t)

-- the bits that an event of a device earns: its estimate, if three kept events of that device came before it, else 0
unfoldable pub event_bits : ℕ → Timer → ℕ
event_bits now t = pick (eqb t.came events_before) (estimated now t) 0
