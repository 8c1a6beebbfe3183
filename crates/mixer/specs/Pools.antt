-- A pool that is lent, as the rules have it.
use Rattle.std.specs.Prelude.{ℕ}
use Rattle.ledger.specs.Shapes.{Shape}
use Rattle.pool.specs.Mixing as rules
use Rattle.mixer.specs.Sizes.{shape_of}
use Rattle.mixer.specs.declared.pools.Pool.{Pool}

-- its words, and where its next byte goes
abbrev pub pool_of : {n : ℕ} → Pool n → rules.Pool
pool_of p = record { words = p.words.now; spot = p.spot }

-- its shape, which the number of its words tells
abbrev pub shape : {n : ℕ} → Pool n → Shape
shape {n = n} p = shape_of n
