-- What work is. The ChaCha20 count of a call is how far words 12 and 13 moved as one 64-bit counter; its compressions are 8 for each block
-- of an extraction from the input pool and 2 for each from the blocking pool, and each such block moves its pool by 20 bytes. So no fixed
-- and no invented count can be reported.
use Rattle.std.specs.Prelude.{◌≡◌, List, [], ◌∷◌, ℕ, ◌+◌, ◌*◌, ◌%◌, ◌^◌, ◌<◌, length, get_or}
use Rattle.ledger.specs.Choice.{pick}
use Rattle.ledger.specs.Sizes.{start_bytes}
use Rattle.ledger.specs.Shapes.{input_shape, blocking_shape}
use Rattle.ledger.specs.Places.{moved, moved_blocks, blocks_of}
use Rattle.ledger.specs.PublicCalls.{PublicCall, brings}
use Rattle.ledger.specs.Machine.{plan_at}
use Rattle.ledger.specs.declared.Answer.{Answer}
use Rattle.keeper.specs.Record.{view}
use Rattle.keeper.specs.Calls.{Call, public}
use Rattle.keeper.specs.Narrative.{told}
use Rattle.keeper.specs.declared.Keeper.{Keeper}

-- words 12 and 13 as one number
abbrev pub counter : List ℕ → ℕ
counter g = get_or g 12 0 + get_or g 13 0 * 2 ^ 32

-- the blocks of the bytes that a call takes for a reseed and brings over, all from the input pool; and of those that it delivers
abbrev pub input_blocks : Keeper → PublicCall → ℕ
input_blocks k c = let p = plan_at (view k) c in blocks_of p.reseed + blocks_of p.transfer

abbrev pub blocking_blocks : Keeper → PublicCall → ℕ
blocking_blocks k c = blocks_of (plan_at (view k) c).deliver

-- a keeper k, the keeper k' that a call left, and what the call answered: bytes that were fed moved the input pool and bytes that were
-- brought over the blocking pool, and then each extraction block moved its pool by 20 bytes more
pub record Worked (k : Keeper) (c : PublicCall) (k' : Keeper) (a : Answer) : Type 0 where
  pub blocks : counter k'.generator ≡ (counter k.generator + a.blocks) % 2 ^ 64
  pub input : k'.ledger.input.spot ≡ moved_blocks input_shape (input_blocks k c) (moved input_shape (pick (plan_at (view k) c).feeds (brings c) 0) k.ledger.input.spot)
  pub blocking : k'.ledger.blocking.spot ≡ moved_blocks blocking_shape (blocking_blocks k c) (moved blocking_shape (plan_at (view k) c).transfer k.ledger.blocking.spot)
  pub compressions : a.compressions ≡ 8 * input_blocks k c + 2 * blocking_blocks k c

-- so for each of the calls, one after another
unfoldable pub AllWorked : Keeper → List Call → Type 0
AllWorked k [] = Unit
AllWorked k (c ∷ cs) = Worked k (public c) (told k c).keeper (told k c).answer × AllWorked (told k c).keeper cs

-- the start bytes of a keeper: 48 of them, each a byte
pub record StartBytes (start : List ℕ) : Type 0 where
  pub long : length start ≡ start_bytes
  pub each : (i : ℕ) → get_or start i 0 < 2 ^ 8
