-- The row of a transcript that an outcome has.
use Rattle.std.specs.Prelude.{List, [], ◌∷◌, ℕ}
use Rattle.keeper.specs.Record.{Outcome}

-- its seven numbers: answer, delivered, the two counts as they are after it, blocks, compressions, units added
unfoldable pub row_for : Outcome → List ℕ
row_for o =
    o.answer.number ∷ o.answer.delivered ∷ o.keeper.ledger.input.count ∷ o.keeper.ledger.blocking.count ∷ o.answer.blocks
    ∷ o.answer.compressions ∷ o.answer.added ∷ []
