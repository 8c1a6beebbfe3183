-- Draws that repeat: how many of them a desk call throws away, which is all that it shows of a secret; and how many generator reads a desk
-- call makes, and what they come to.
use Rattle.std.specs.Prelude.{Bool, ◌&&◌, not, List, [], ◌∷◌, ℕ, zero, suc, ◌+◌, min, eqb, replicate}
use Rattle.ledger.specs.Choice.{pick}
use Rattle.ledger.specs.Numbers.{done}
use Rattle.keeper.specs.Record.{Outcome, fine}
use Rattle.keeper.specs.Calls.{Call}
use Rattle.keeper.specs.declared.Keeper.{Keeper}
use Rattle.desk.specs.Sizes.{most_draws}
use Rattle.desk.specs.Desks.{remembered, among, desk_in_range}
use Rattle.desk.specs.Issuing.{Spent, nothing_yet, draw_call, draw, class_of}
use Rattle.desk.specs.declared.Desk.{Desk}

-- of at most so many draws, those thrown away
unfoldable pub thrown_away : ℕ → ℕ → ℕ → Desk → Keeper → ℕ
thrown_away zero class now d k = 0
thrown_away (suc n) class now d k =
    let o = draw now k in
    let more = suc (thrown_away n class now d o.keeper) in
    pick (eqb o.answer.number done) (pick (among (class ∷ o.bytes) (remembered d)) more 0) 0

-- a call that is refused before it draws throws nothing away
abbrev pub draws : Keeper → Desk → List ℕ → Bool
draws k d field = (fine k && desk_in_range d) && not (eqb (class_of field) 0)

unfoldable pub repeats : Keeper → Desk → ℕ → List ℕ → ℕ
repeats k d now field = pick (draws k d field) (thrown_away most_draws (class_of field) now d k) 0

-- ---- the reads that a desk call makes: those thrown away and one more, at most four
abbrev pub draws_made : Keeper → Desk → ℕ → List ℕ → ℕ
draws_made k d now field = pick (draws k d field) (min most_draws (suc (thrown_away most_draws (class_of field) now d k))) 0

abbrev pub reads : ℕ → ℕ → List Call
reads n now = replicate n (draw_call now)

-- the work of some of them
unfoldable pub work_of : List Outcome → Spent
work_of [] = nothing_yet
work_of (o ∷ more) = record { blocks = o.answer.blocks + (work_of more).blocks; compressions = o.answer.compressions + (work_of more).compressions }
