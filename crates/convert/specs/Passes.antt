-- The two passes over a journal. One finds out all that the refusals need: the number that it ends with, whether an event is of a device that
-- version 1 has not, and how many events there are, for each of which the outcome is one byte longer. The other writes.
use Rattle.std.specs.Prelude.{◌≡◌, ℕ, ◌+◌, Bool, List, [], ◌∷◌, Result, Ok, Err}
use Rattle.ledger.specs.Refusals.{number_of}
use Rattle.ledger.specs.declared.refusals.Refusal.{Refusal}
use Rattle.journal.specs.Walking.{Entry, Walk, walk}
use Rattle.journal.specs.Writing.{said_in, written}
use Rattle.journal.specs.declared.records.Record.{Record}
use Rattle.journal.specs.declared.records.Record.TheVariants.{Event, Interrupt, Write, Seed, Read, BlockingRead}
use Rattle.convert.specs.Converting.{beyond}
use Rattle.convert.specs.declared.judging.Judged.{Judged as WellJudged}

-- 1 for an event
unfoldable pub one_event : Record → ℕ
one_event (Event now device stamp value) = 1
one_event (Interrupt now number stamp address) = 0
one_event (Write now len) = 0
one_event (Seed now len credit) = 0
one_event (Read now len) = 0
one_event (BlockingRead now len) = 0

unfoldable pub events_in : List Entry → ℕ
events_in [] = 0
events_in (e ∷ es) = one_event e.what + events_in es

pub record Judged : Type 0 where
  pub number : ℕ
  pub strange : Bool
  pub events : ℕ

unfoldable pub judged : Walk → Judged
judged w = record { number = w.number; strange = beyond w.entries; events = events_in w.entries }

-- what the code found tells this: all of it where the number is 0, and else the number
abbrev pub Tells : Result WellJudged Refusal → Judged → Type 0
Tells (Ok found) it = record { number = 0; strange = found.strange; events = found.events } ≡ it
Tells (Err why) it = number_of why ≡ it.number

-- the records of a journal of version 1, from a position on, as they are written in version 2
abbrev pub rewritten : List ℕ → ℕ → List ℕ
rewritten j at = written 2 (said_in j (walk 1 j at).entries)
