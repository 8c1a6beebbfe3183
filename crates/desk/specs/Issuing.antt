-- The issuing of a message number, refusals first: 17, then 13, then what the keeper says; and then draw by draw.
use Rattle.std.specs.Prelude.{◌&&◌, List, [], ◌∷◌, ℕ, zero, suc, ◌+◌, eqb, replicate}
use Rattle.ledger.specs.Choice.{pick}
use Rattle.ledger.specs.Numbers.{done, no_such_class, all_repeated, out_of_range}
use Rattle.ledger.specs.declared.Answer.{Answer}
use Rattle.keeper.specs.Record.{Outcome, fine}
use Rattle.keeper.specs.Calls.{Call, generator_read}
use Rattle.keeper.specs.Narrative.{told}
use Rattle.keeper.specs.declared.Keeper.{Keeper}
use Rattle.desk.specs.Sizes.{drawn_bytes, number_bytes, most_draws, drill, live}
use Rattle.desk.specs.Desks.{remembered, same, among, appended, desk_in_range}
use Rattle.desk.specs.declared.Desk.{Desk}
use Rattle.desk.specs.declared.Issued.{Issued}

-- ---- the record, the desk and what is handed back, all as they are when a desk call is over
pub record LeftWith : Type 0 where
  pub keeper : Keeper
  pub desk : Desk
  pub issued : Issued

abbrev pub left_with : Keeper → Desk → Issued → LeftWith
left_with k d i = record { keeper = k; desk = d; issued = i }

-- the work of the draws so far, and with one more
pub record Spent : Type 0 where
  pub blocks : ℕ
  pub compressions : ℕ

abbrev pub nothing_yet : Spent
nothing_yet = record { blocks = 0; compressions = 0 }

abbrev pub spending : Spent → Answer → Spent
spending s a = record { blocks = s.blocks + a.blocks; compressions = s.compressions + a.compressions }

-- a number, 16 bytes delivered, and the work of all its draws; no read adds to a count
abbrev pub handed : Spent → List ℕ → Issued
handed s n = record { answer = record { number = done; delivered = number_bytes; blocks = s.blocks; compressions = s.compressions; added = 0 }; number = n }

-- no number: 16 zero bytes
abbrev pub none : ℕ → Spent → Issued
none why s = record { answer = record { number = why; delivered = 0; blocks = s.blocks; compressions = s.compressions; added = 0 }; number = replicate number_bytes 0 }

-- ---- the class byte that a class field names: 0x44 for drill, 0x4C for live; 0 for any other class and for a field not of one byte
unfoldable pub class_of : List ℕ → ℕ
class_of field = pick (same field (drill ∷ [])) drill (pick (same field (live ∷ [])) live 0)

-- ---- one draw: 15 bytes from a generator read
abbrev pub draw_call : ℕ → Call
draw_call now = generator_read now drawn_bytes

abbrev pub draw : ℕ → Keeper → Outcome
draw now k = told k (draw_call now)

-- at most so many draws, after draws that came to so much work. A keeper's refusal passes through; a draw that with its class byte equals a
-- remembered number is thrown away, and another is made; any other is issued. When no draw is left, that is refused with 14: the desk is as it was,
-- and the keeper as these draws left it. That is the one exception to demand 1: after every other refusal record and desk are as they were.
unfoldable pub drawing : ℕ → ℕ → ℕ → Desk → Spent → Keeper → LeftWith
drawing zero class now d s k = left_with k d (none all_repeated s)
drawing (suc n) class now d s k =
    let o = draw now k in
    let number = class ∷ o.bytes in
    let spent = spending s o.answer in
    let again = drawing n class now d spent o.keeper in
    pick (eqb o.answer.number done)
    (pick (among number (remembered d)) again (left_with o.keeper (appended number d) (handed spent number)))
    (left_with o.keeper d (none o.answer.number spent))

-- ---- the desk call: 17 for the record or for the desk's count, 13, and then at most four draws
unfoldable pub issue : Keeper → Desk → ℕ → List ℕ → LeftWith
issue k d now field =
    pick (fine k && desk_in_range d)
    (pick (eqb (class_of field) 0) (left_with k d (none no_such_class nothing_yet)) (drawing most_draws (class_of field) now d nothing_yet k))
    (left_with k d (none out_of_range nothing_yet))
