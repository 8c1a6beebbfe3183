-- Each turn of `reckon::credits::turns` is one of `further`, unrolled.
use Rattle.std.proofs.Common.{◌≡◌, ℕ, ◌+◌, ◌-◌, ◌<◌, ◌≤◌, arith, le-ltb, lt-ltb}
use Rattle.ledger.specs.Choice.{pick}
use Rattle.ledger.specs.Credits.{turn_takes, turn_adds, further}
use Rattle.ledger.proofs.Unrolled.{unroll, no_rest}
use Rattle.reckon.proofs.credits.+turns.Goals as goal
use Rattle.reckon.proofs.credits.+turns.Goals.{else-rest-gt0-via-then-rest-gt0+else-count-size, else-rest-gt0-via-else-rest-gt0}

-- there is a rest, and the count is below S - 2: a turn, then the turns that are left
goes_on : (S rest count : ℕ) → 2 ≤ S → 0 < rest → count < S - 2
    → further S (rest - turn_takes S rest) (rest - turn_takes S rest) (count + turn_adds S count rest) ≡ further S rest rest count
unfolding pick
goes_on S rest count h p q = rw (unroll S rest count h, lt-ltb 0 rest p, lt-ltb count (S - 2) q)

-- the count is not below S - 2: it stays
full : (S rest count : ℕ) → 2 ≤ S → 0 < rest → S - 2 ≤ count → count ≡ further S rest rest count
unfolding pick
full S rest count h p q = rw (unroll S rest count h, lt-ltb 0 rest p, le-ltb count (S - 2) q)

-- there is no rest: the count stays
no_more : (S rest count : ℕ) → rest ≤ 0 → count ≡ further S rest rest count
no_more S rest count p =
    let e : rest ≡ 0 = omega arith in
    rw (e, no_rest)

pub returns-then-count-size : goal.returns-then-count-size
returns-then-count-size t c =
    rw (c.turns.ensures, c.turn_takes.ensures, c.after_turn.ensures.value) (goes_on _ _ _ (omega arith) (omega arith) c.if-count-size.true)

pub returns-else-rest-gt0 : goal.returns-else-rest-gt0
returns-else-rest-gt0 t c =
    elim c.else-rest-gt0.branch [
      | else-rest-gt0-via-then-rest-gt0+else-count-size w ↦ full _ _ _ (omega arith) w.if-rest-gt0.true w.if-count-size.false
      | else-rest-gt0-via-else-rest-gt0 w ↦ no_more _ _ _ w.if-rest-gt0.false
    ]
