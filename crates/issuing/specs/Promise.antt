-- The draws as the code makes them, in two strokes. What is public decides the first draw, once for all of them; then bytes are drawn from the
-- generator alone, since a further read at the same clock does nothing else.
use Rattle.std.specs.Prelude.{Result, Ok, Err, List, ◌∷◌, ℕ, zero, suc, ◌+◌}
use Rattle.ledger.specs.Choice.{pick}
use Rattle.ledger.specs.Numbers.{all_repeated}
use Rattle.ledger.specs.Refusals.{number_of}
use Rattle.ledger.specs.declared.refusals.Refusal.{Refusal}
use Rattle.keeper.specs.Generator.{generated}
use Rattle.keeper.specs.Record.{with_generator}
use Rattle.keeper.specs.declared.Keeper.{Keeper}
use Rattle.desk.specs.Sizes.{drawn_bytes}
use Rattle.desk.specs.Desks.{remembered, among, appended}
use Rattle.desk.specs.Issuing.{LeftWith, left_with, Spent, nothing_yet, none, handed}
use Rattle.desk.specs.declared.Desk.{Desk}
use Rattle.desk.specs.declared.Issued.{Issued}

-- the generator, the desk and what is handed back, when the draws are over
pub record Streamed : Type 0 where
  pub generator : List ℕ
  pub desk : Desk
  pub issued : Issued

abbrev pub streamed : List ℕ → Desk → Issued → Streamed
streamed g d i = record { generator = g; desk = d; issued = i }

-- one draw's blocks more; it runs no compression
abbrev pub and_blocks : ℕ → Spent → Spent
and_blocks b s = record { blocks = s.blocks + b; compressions = s.compressions }

-- at most so many draws, after so much work
unfoldable pub streaming : ℕ → ℕ → Desk → Spent → List ℕ → Streamed
streaming zero class d s g = streamed g d (none all_repeated s)
streaming (suc n) class d s g =
    let o = generated drawn_bytes g in
    let number = class ∷ o.bytes in
    let spent = and_blocks o.blocks s in
    let again = streaming n class d spent o.generator in
    pick (among number (remembered d)) again (streamed o.generator (appended number d) (handed spent number))

-- the record with the generator that draws left, the desk, and what is handed back
abbrev pub in_record : Keeper → Streamed → LeftWith
in_record k r = left_with (with_generator r.generator k) r.desk r.issued

-- ---- what is handed back: a number, or none where four draws repeated; of a refusal before the first draw its number, and no work
abbrev pub handed_back : Result Issued Refusal → Issued
handed_back (Ok i) = i
handed_back (Err why) = none (number_of why) nothing_yet
