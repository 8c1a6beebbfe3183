-- What a call leaves in the terminal's hands, and what the paper says that it leaves.
use Rattle.std.specs.Prelude.{◌≡◌, List, [], ◌++◌, drop, ℕ, replicate}
use Rattle.ledger.specs.Sizes.{input_words, blocking_words, fast_words, generator_words}
use Rattle.ledger.specs.Timers.{fresh_timers}
use Rattle.ledger.specs.Marks.{fresh_ledger}
use Rattle.ledger.specs.declared.Answer.{Answer}
use Rattle.keeper.specs.Record.{keeper_of, Outcome, room_after, made}
use Rattle.keeper.specs.Calls.{Call}
use Rattle.keeper.specs.Narrative.{told}
use Rattle.keeper.specs.declared.Keeper.{Keeper}

-- ---- the record, the answer and the output room, all as they are when a call is over
pub record Left : Type 0 where
  pub keeper : Keeper
  pub answer : Answer
  pub room : List ℕ

abbrev pub left : Keeper → Answer → List ℕ → Left
left k a room = record { keeper = k; answer = a; room = room }

-- an outcome, over a room that held something before
abbrev pub over : List ℕ → Outcome → Left
over room o = left o.keeper o.answer (room_after room o.bytes)

-- what a call leaves, told as the paper tells it
unfoldable pub leaves : Keeper → Call → List ℕ → Left
leaves k c room = over room (told k c)

-- what a call leaves, part by part
pub record Told (k : Keeper) (c : Call) (room : List ℕ) (x : Left) : Type 0 where
  pub keeper : x.keeper ≡ (told k c).keeper
  pub answer : x.answer ≡ (told k c).answer
  pub room_holds : x.room ≡ (told k c).bytes ++ drop x.answer.delivered room

-- what the making of a keeper leaves
unfoldable pub leaves_made : Keeper → List ℕ → Left
leaves_made k start = over [] (made start k)

-- a record before a keeper was made in it: all zero, unseeded
abbrev pub blank : Keeper
blank = keeper_of fresh_ledger fresh_timers (replicate input_words 0) (replicate blocking_words 0) (replicate fast_words 0) (replicate generator_words 0)
