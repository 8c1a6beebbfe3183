-- What a generator read of len bytes runs: blocks of 64 bytes until the length is met, and one more where the last has no 32 bytes left for
-- the key.
use Rattle.std.specs.Prelude.{Bool, ℕ, ◌+◌, ◌-◌, ◌*◌, ◌/◌, ltb}
use Rattle.ledger.specs.Choice.{pick}

-- blocks until the length is met
abbrev pub whole_blocks : ℕ → ℕ
whole_blocks len = (len + 63) / 64

-- u: bytes used of the last block, rounded up to 4
abbrev pub used_up : ℕ → ℕ
used_up len = (len - 64 * (whole_blocks len - 1) + 3) / 4 * 4

-- u + 32 exceeds 64
abbrev pub one_more : ℕ → Bool
one_more len = ltb 64 (used_up len + 32)

abbrev pub stream_blocks : ℕ → ℕ
stream_blocks len = pick (one_more len) (whole_blocks len + 1) (whole_blocks len)

-- where the 32 bytes for the key begin: at u of the last block, or at the start of the one more
abbrev pub key_from : ℕ → ℕ
key_from len = pick (one_more len) (64 * whole_blocks len) (64 * (whole_blocks len - 1) + used_up len)
