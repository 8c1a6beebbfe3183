use mathlib.Core.Path.{◌∙◌}
use Rattle.std.proofs.Common.{inl, inr}
use Rattle.journal.specs.Layout.{fields_of}
use Rattle.listing.proofs.looked.numbers.Goals as goal

pub returns-in-Event-clause-put : goal.returns-in-Event-clause-put
unfolding fields_of
returns-in-Event-clause-put c = rw (← c.from-kind.ensures ∙ c.kind.ensures, c.in-Event.is) c.row.ensures.put

pub returns-in-Interrupt-clause-put : goal.returns-in-Interrupt-clause-put
unfolding fields_of
returns-in-Interrupt-clause-put c = rw (← c.from-kind.ensures ∙ c.kind.ensures, c.in-Interrupt.is) c.row-in-Interrupt.ensures.put

pub returns-in-Write-clause-put : goal.returns-in-Write-clause-put
unfolding fields_of
returns-in-Write-clause-put c = rw (← c.from-kind.ensures ∙ c.kind.ensures, c.in-Write.is) c.row-in-Write.ensures.put

pub returns-in-Seed-clause-put : goal.returns-in-Seed-clause-put
unfolding fields_of
returns-in-Seed-clause-put c = rw (← c.from-kind.ensures ∙ c.kind.ensures, c.in-Seed.is) c.row-in-Seed.ensures.put

pub returns-in-Read-clause-put : goal.returns-in-Read-clause-put
unfolding fields_of
returns-in-Read-clause-put c = elim c.in-Read.is [
  | inl e ↦ rw (← c.from-kind.ensures ∙ c.kind.ensures, e) c.row-in-Read.ensures.put
  | inr e ↦ rw (← c.from-kind.ensures ∙ c.kind.ensures, e) c.row-in-Read.ensures.put
]
