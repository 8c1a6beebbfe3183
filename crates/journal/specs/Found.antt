-- What may stand at a position of a journal, and what a header says: the forms that the definitions speak of; and what the code's answers say.
use Rattle.std.specs.Prelude.{ℕ, Result, Ok, Err, Option, Some, None}
use Rattle.ledger.specs.Refusals.{number_of}
use Rattle.ledger.specs.declared.refusals.Refusal.{Refusal}
use Rattle.journal.specs.declared.heading.Heading.{Heading as GoodHeading}
use Rattle.journal.specs.declared.records.Record.{Record}

-- a record and the position after it, the number that the journal ends with there, or no more bytes
pub data Found : Type 0 where
  One : Record → ℕ → Found
  Stop : ℕ → Found
  End : Found

-- the number, which is 0 where the header is good; the version; and where the records begin
pub record Heading : Type 0 where
  pub number : ℕ
  pub version : ℕ
  pub place : ℕ

-- what the code found: a record and the position after it, no more bytes, or why the journal ends there
abbrev pub found : Result (Option (Record × ℕ)) Refusal → Found
found (Ok (Some (it, next))) = One it next
found (Ok None) = End
found (Err why) = Stop (number_of why)

-- what the code says of a header: one that is not good has no version and no place
abbrev pub headed : Result GoodHeading Refusal → Heading
headed (Ok h) = record { number = 0; version = h.version; place = h.place }
headed (Err why) = record { number = number_of why; version = 0; place = 0 }
