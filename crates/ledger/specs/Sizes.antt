-- Sizes, one name for each; src/sizes.rt has the same names.
use Rattle.std.specs.Prelude.{ℕ}

-- devices are 0 up to one less
abbrev pub devices : ℕ
devices = 1024

-- words of the input pool, of the blocking pool, of the fast pool and of the generator
abbrev pub input_words : ℕ
input_words = 128

abbrev pub blocking_words : ℕ
blocking_words = 32

abbrev pub fast_words : ℕ
fast_words = 4

abbrev pub generator_words : ℕ
generator_words = 16

-- the size S of the input pool and of the blocking pool, in eighths of a bit
abbrev pub input_size : ℕ
input_size = 32768

abbrev pub blocking_size : ℕ
blocking_size = 8192

-- start bytes of a keeper
abbrev pub start_bytes : ℕ
start_bytes = 48

-- the most bytes of a write, a seed or a read
abbrev pub longest : ℕ
longest = 4096

-- kept events of a device that come before one that earns
abbrev pub events_before : ℕ
events_before = 3
