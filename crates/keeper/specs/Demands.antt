-- What the three demands speak of: a run of calls, and what two runs must show alike.
use Rattle.std.specs.Prelude.{◌≡◌, List, [], ◌∷◌, map}
use Rattle.ledger.specs.Machine.{Shown}
use Rattle.keeper.specs.Record.{view, Outcome}
use Rattle.keeper.specs.Calls.{Call}
use Rattle.keeper.specs.Narrative.{told}
use Rattle.keeper.specs.declared.Keeper.{Keeper}

-- what comes of each call, one after another
unfoldable pub outcomes : Keeper → List Call → List Outcome
outcomes k [] = []
outcomes k (c ∷ cs) = told k c ∷ outcomes (told k c).keeper cs

-- the keeper at the end
unfoldable pub keeper_after : Keeper → List Call → Keeper
keeper_after k [] = k
keeper_after k (c ∷ cs) = keeper_after (told k c).keeper cs

-- what an outcome shows: the ledger with the counts, the positions, device 0's last value, the tally, the last spill, the seeded mark and
-- the seeding clock; the timers; generator words 0 to 3; and the answer with its number, the delivered length, the work and the units
-- added. That is all but the words of the pools, of the fast pool and of the generator, and the bytes handed out.
abbrev pub shown : Outcome → Shown
shown o = record { view = view o.keeper; answer = o.answer }

-- two runs are alike where they show the same after each call
abbrev pub Alike : List Outcome → List Outcome → Type 0
Alike xs ys = map shown xs ≡ map shown ys
