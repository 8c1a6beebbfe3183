-- `reckon::credits::credited` meets its contract: a first turn on a rest of 8 for each bit, then the turns that are left.
use Rattle.std.proofs.Common.{◌≡◌, ℕ, sym, ap, ◌∙◌, arith}
use Rattle.ledger.proofs.Crediting.{credited-room}
use Rattle.ledger.proofs.Unrolled.{credited_none, credited-turns}
use Rattle.ledger.specs.Credits.{credited}
use Rattle.reckon.proofs.credits.credited.Goals as goal

pub returns-then-bits-eq0-clause-value : goal.returns-then-bits-eq0-clause-value
returns-then-bits-eq0-clause-value c =
    let s = c.args in
    sym (ap (λ (n : ℕ). credited s.size n s.count) c.if-bits-eq0.true ∙ credited_none s.size s.count)

pub returns : goal.returns
returns c =
    let s = c.args in
    let is : c.turns.result ≡ credited s.size s.bits s.count
    = rw (c.turns.ensures, c.turn_takes.ensures, c.after_turn.ensures.value)
    (sym (credited-turns s.size s.bits s.count (omega arith) (omega arith))) in
    record { value = is; upper_bound = rw is (credited-room s.size s.bits s.count (omega arith) (omega arith)) }
