use native.Mathlib.Omega.{arith}
use Rattle.mixer.proofs.Mixes.{turned_zero, turned_other}
use Rattle.mixer.proofs.mixing.turned.Goals as goal

pub returns-then-at-eq0 : goal.returns-then-at-eq0
returns-then-at-eq0 c = (turned_zero _ _ c.if-at-eq0.true, omega arith)

pub returns-else-at-eq0 : goal.returns-else-at-eq0
returns-else-at-eq0 c = (turned_other _ _ c.if-at-eq0.false, omega arith)
