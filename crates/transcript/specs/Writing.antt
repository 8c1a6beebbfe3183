-- A text that grows in a room.
use Rattle.std.specs.Prelude.{ℕ, ◌+◌, ◌≤◌, ◌≡◌, List, length}
use Rattle.transcript.specs.Text.{Put}
use Rattle.transcript.specs.declared.text.Text.{Text}

-- the room holds n bytes more
abbrev pub HasRoom : Text → ℕ → Type 0
HasRoom t n = t.at + n ≤ length t.room.now

-- .. and at most n were added to the text
abbrev pub AddsAtMost : Text → Text → ℕ → Type 0
AddsAtMost before after n = after.at ≤ before.at + n

-- a piece was put behind the text; the room is the same one, as long as it was, and all else in it is as it was
pub record Adds (before after : Text) (piece : List ℕ) : Type 0 where
  pub put : Put before.room.now after.room.now before.at piece after.at
  pub same_length : length after.room.now ≡ length before.room.now
  pub same_reference : after.room.ghost_name ≡ before.room.ghost_name
