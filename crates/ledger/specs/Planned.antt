-- What is decided for a call, as the code gives it: a plan that is to be carried out, or why the call is refused.
use Rattle.std.specs.Prelude.{Result, Ok, Err}
use Rattle.ledger.specs.Plans.{idle}
use Rattle.ledger.specs.Refusals.{number_of}
use Rattle.ledger.specs.declared.Ledger.{Ledger}
use Rattle.ledger.specs.declared.Plan.{Plan}
use Rattle.ledger.specs.declared.refusals.Refusal.{Refusal}

-- the plan; of a refusal, its number, and nothing is done
abbrev pub plan_or_idle : Ledger → Result Plan Refusal → Plan
plan_or_idle l (Ok p) = p
plan_or_idle l (Err why) = idle (number_of why) l
