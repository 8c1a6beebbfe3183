-- A credit never lowers a count, so how far it rose is a difference that does not wrap.
use Rattle.std.proofs.Common.{arith}
use Rattle.ledger.proofs.Crediting.{credited_grows}
use Rattle.reckon.proofs.credits.credit.Goals as goal

pub overflow_sub-result : goal.overflow_sub-result
overflow_sub-result c = let s = c.args in omega (arith, c.credited-after.ensures.value, credited_grows s.size s.bits s.count)
