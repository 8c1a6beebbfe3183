-- The record, its two pools, a fresh keeper, and what a call hands back.
use Rattle.std.specs.Prelude.{Bool, List, [], ◌++◌, ℕ, eqb, length, take, drop, replicate}
use Rattle.words.specs.Bytes.{bytes_words}
use Rattle.ledger.specs.Choice.{pick}
use Rattle.ledger.specs.Sizes.{input_words, blocking_words, fast_words, start_bytes}
use Rattle.ledger.specs.Numbers.{done, start_not_48}
use Rattle.ledger.specs.Timers.{Timers, fresh_timers, timer_of, kept}
use Rattle.ledger.specs.Marks.{placing, with_input, with_blocking, fresh_ledger}
use Rattle.ledger.specs.Range.{View, in_range, fixed_words}
use Rattle.ledger.specs.declared.Ledger.{Ledger}
use Rattle.ledger.specs.declared.Timer.{Timer}
use Rattle.ledger.specs.Plans.{bare}
use Rattle.ledger.specs.declared.Answer.{Answer}
use Rattle.pool.specs.Mixing.{Pool}
use Rattle.keeper.specs.declared.Keeper.{Keeper}

-- ---- parts of the record
abbrev pub timers_in : Keeper → Timers
timers_in k = record { clocks = k.clocks; firsts = k.firsts; seconds = k.seconds; came = k.came }

abbrev pub device_timer : Keeper → ℕ → Timer
device_timer k = timer_of (timers_in k)

abbrev pub input_pool : Keeper → Pool
input_pool k = record { words = k.input; spot = k.ledger.input.spot }

abbrev pub blocking_pool : Keeper → Pool
blocking_pool k = record { words = k.blocking; spot = k.ledger.blocking.spot }

-- ---- the record out of its parts, and with another part
abbrev pub keeper_of : Ledger → Timers → List ℕ → List ℕ → List ℕ → List ℕ → Keeper
keeper_of l ts input blocking fast generator =
    record { ledger = l; clocks = ts.clocks; firsts = ts.firsts; seconds = ts.seconds; came = ts.came; input = input; blocking = blocking; fast = fast; generator = generator }

abbrev pub with_ledger : Ledger → Keeper → Keeper
with_ledger l k = keeper_of l (timers_in k) k.input k.blocking k.fast k.generator

abbrev pub with_timer : ℕ → Timer → Keeper → Keeper
with_timer device t k = keeper_of k.ledger (kept device t (timers_in k)) k.input k.blocking k.fast k.generator

abbrev pub with_input_pool : Pool → Keeper → Keeper
with_input_pool p k = keeper_of (with_input (placing p.spot k.ledger.input) k.ledger) (timers_in k) p.words k.blocking k.fast k.generator

abbrev pub with_blocking_pool : Pool → Keeper → Keeper
with_blocking_pool p k = keeper_of (with_blocking (placing p.spot k.ledger.blocking) k.ledger) (timers_in k) k.input p.words k.fast k.generator

abbrev pub with_fast : List ℕ → Keeper → Keeper
with_fast f k = keeper_of k.ledger (timers_in k) k.input k.blocking f k.generator

abbrev pub with_generator : List ℕ → Keeper → Keeper
with_generator g k = keeper_of k.ledger (timers_in k) k.input k.blocking k.fast g

-- ---- a fresh keeper: all zero, unseeded, but for the generator's words
abbrev pub fresh : List ℕ → Keeper
fresh start = keeper_of fresh_ledger fresh_timers (replicate input_words 0) (replicate blocking_words 0) (replicate fast_words 0) (fixed_words ++ bytes_words start)

-- ---- what is public of a record, and its range test
abbrev pub view : Keeper → View
view k = record { ledger = k.ledger; timers = timers_in k; fixed = take 4 k.generator }

abbrev pub fine : Keeper → Bool
fine k = in_range (view k)

-- ---- what a call gives: the record afterwards, the answer, and the bytes that it hands out
pub record Outcome : Type 0 where
  pub keeper : Keeper
  pub answer : Answer
  pub bytes : List ℕ

-- a refusal changes nothing, delivers nothing, reports no work and adds nothing
abbrev pub refused : ℕ → Keeper → Outcome
refused n k = record { keeper = k; answer = bare n; bytes = [] }

-- a call so far: the keeper, the compressions run and the units that crediting added
pub record Run : Type 0 where
  pub keeper : Keeper
  pub compressions : ℕ
  pub added : ℕ

-- nothing run and nothing added yet
abbrev pub reached : Keeper → Run
reached k = record { keeper = k; compressions = 0; added = 0 }

-- so many units were added
abbrev pub adding : ℕ → Run → Run
adding n w = record { keeper = w.keeper; compressions = w.compressions; added = n }

-- the call that ends so, with nothing to hand out
abbrev pub finished : Run → Outcome
finished w = record { keeper = w.keeper; answer = record { number = done; delivered = 0; blocks = 0; compressions = w.compressions; added = w.added }; bytes = [] }

-- the output room afterwards: the bytes, and past them what was there
abbrev pub room_after : List ℕ → List ℕ → List ℕ
room_after room bytes = bytes ++ drop (length bytes) room

-- making a keeper in a record that is lent: 48 start bytes, else answer 6 and no keeper made
unfoldable pub made : List ℕ → Keeper → Outcome
made start k = pick (eqb (length start) start_bytes) (finished (reached (fresh start))) (refused start_not_48 k)
