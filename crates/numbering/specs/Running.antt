-- A journal run on a keeper from a place on.
use Rattle.std.specs.Prelude.{List, map, ℕ}
use Rattle.journal.specs.Walking.{walk}
use Rattle.keeper.specs.Demands.{keeper_after}
use Rattle.keeper.specs.declared.Keeper.{Keeper}
use Rattle.replay.specs.Running.{call_of}

-- the keeper after the calls of all whole records from there on, in a version
unfoldable pub ran_from : ℕ → List ℕ → ℕ → Keeper → Keeper
ran_from v j at k = keeper_after k (map (call_of v j) (walk v j at).entries)
