-- The bytes that calls take from the input pool.
use Rattle.std.specs.Prelude.{List, [], ◌∷◌, ℕ, ◌+◌, length}
use Rattle.ledger.specs.Machine.{plan_at}
use Rattle.keeper.specs.Record.{view}
use Rattle.keeper.specs.Calls.{Call, public}
use Rattle.keeper.specs.Narrative.{told}
use Rattle.keeper.specs.Obey.{for_reseed, for_transfer}
use Rattle.keeper.specs.declared.Keeper.{Keeper}

-- those of one call that go onto the key, and those that go into the blocking pool
abbrev pub onto_key_by : Keeper → Call → List ℕ
onto_key_by k c = (for_reseed c (plan_at (view k) (public c)) k).bytes

abbrev pub brought_over_by : Keeper → Call → List ℕ
brought_over_by k c = (for_transfer c (plan_at (view k) (public c)) k).bytes

-- how many they are over calls, one after another
unfoldable pub taken_over : (Keeper → Call → List ℕ) → Keeper → List Call → ℕ
taken_over f k [] = 0
taken_over f k (c ∷ cs) = length (f k c) + taken_over f (told k c).keeper cs
