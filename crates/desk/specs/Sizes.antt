-- The desk's numbers.
use Rattle.std.specs.Prelude.{ℕ}

-- the last 64 numbers are remembered
abbrev pub remembers : ℕ
remembers = 64

-- a number has 16 bytes: a class byte, then 15 from a generator read
abbrev pub drawn_bytes : ℕ
drawn_bytes = 15

abbrev pub number_bytes : ℕ
number_bytes = 16

abbrev pub desk_bytes : ℕ
desk_bytes = 1024

-- at most four draws in all
abbrev pub most_draws : ℕ
most_draws = 4

-- the class bytes
abbrev pub drill : ℕ
drill = 0x44

abbrev pub live : ℕ
live = 0x4C
