-- The range test, answer 17: what a terminal lends may hold anything.
use Rattle.std.specs.Prelude.{Bool, true, false, ◌&&◌, List, [], ◌∷◌, ℕ, ◌-◌, ◌^◌, ltb, leb, eqb, ℤ, pos, negsuc}
use Rattle.ledger.specs.Sizes.{events_before}
use Rattle.ledger.specs.Shapes.{Shape, input_shape, blocking_shape}
use Rattle.ledger.specs.Timers.{Timers}
use Rattle.ledger.specs.declared.Gauge.{Gauge}
use Rattle.ledger.specs.declared.Ledger.{Ledger}
use Rattle.ledger.specs.declared.Timer.{Timer}

-- what is public of the record, all of which is tested but the clocks: the ledger, the timers, and generator words 0 to 3
pub record View : Type 0 where
  pub ledger : Ledger
  pub timers : Timers
  pub fixed : List ℕ

-- no count above its S, no position outside its pool, no rotation above 31
abbrev pub pool_in_range : Shape → Gauge → Bool
pool_in_range sh g = leb g.count sh.size && (ltb g.spot.at sh.words && leb g.spot.turn 31)

-- from -low to high
abbrev pub within : ℕ → ℕ → ℤ → Bool
within low high (pos n) = leb n high
within low high (negsuc n) = ltb n low

-- d1 in -2^31 to 2^31 - 1
abbrev pub first_in_range : ℤ → Bool
first_in_range = within (2 ^ 31) (2 ^ 31 - 1)

-- d2 not beyond 2^32 - 1 either way
abbrev pub second_in_range : ℤ → Bool
second_in_range = within (2 ^ 32 - 1) (2 ^ 32 - 1)

-- no more than three events counted
abbrev pub came_in_range : ℕ → Bool
came_in_range n = leb n events_before

-- a test of every number of a list
abbrev pub every : {A : Type 0} → (A → Bool) → List A → Bool
every f [] = true
every f (x ∷ xs) = f x && every f xs

-- generator words 0 to 3, which are fixed
abbrev pub fixed_words : List ℕ
fixed_words = 0x61707865 ∷ 0x3320646e ∷ 0x79622d32 ∷ 0x6b206574 ∷ []

abbrev pub same_words : List ℕ → List ℕ → Bool
same_words [] [] = true
same_words [] (b ∷ bs) = false
same_words (a ∷ ws) [] = false
same_words (a ∷ ws) (b ∷ bs) = eqb a b && same_words ws bs

-- the ledger's part: both pools, and no tally above 63
unfoldable pub ledger_in_range : Ledger → Bool
ledger_in_range l = pool_in_range input_shape l.input && (pool_in_range blocking_shape l.blocking && leb l.spill.tally 63)

-- a timer's part, and that of all timers
abbrev pub timer_in_range : Timer → Bool
timer_in_range t = first_in_range t.d1 && second_in_range t.d2 && came_in_range t.came

abbrev pub timers_in_range : Timers → Bool
timers_in_range ts = every first_in_range ts.firsts && every second_in_range ts.seconds && every came_in_range ts.came

-- what the ledger does not hold: all timers, and generator words 0 to 3
unfoldable pub others_in_range : Timers → List ℕ → Bool
others_in_range ts fixed = timers_in_range ts && same_words fixed fixed_words

-- the whole test
unfoldable pub in_range : View → Bool
in_range v = ledger_in_range v.ledger && others_in_range v.timers v.fixed
