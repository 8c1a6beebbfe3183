-- Where bytes go in a pool: the position and the rotation, which move by the count of bytes alone, whatever the bytes are.
use Rattle.std.specs.Prelude.{ℕ, zero, suc, ◌+◌, ◌-◌, ◌*◌, ◌/◌, ◌%◌, eqb}
use Rattle.ledger.specs.Choice.{pick}
use Rattle.ledger.specs.Shapes.{Shape, rounds}
use Rattle.ledger.specs.declared.Spot.{Spot}

-- a position falls by one modulo the word count
abbrev pub below : Shape → ℕ → ℕ
below sh i = (i + (sh.words - 1)) % sh.words

-- the rotation grows by 7, or by 14 where the new position is 0, modulo 32
abbrev pub turned : ℕ → ℕ → ℕ
turned i r = (r + pick (eqb i 0) 14 7) % 32

-- one byte is mixed
abbrev pub stepped : Shape → Spot → Spot
stepped sh s = record { at = below sh s.at; turn = turned (below sh s.at) s.turn }

-- n bytes are mixed
unfoldable pub moved : Shape → ℕ → Spot → Spot
moved sh zero s = s
moved sh (suc n) s = moved sh n (stepped sh s)

-- extraction goes in blocks of 10 bytes, the last one shortened
abbrev pub blocks_of : ℕ → ℕ
blocks_of k = (k + 9) / 10

-- n extraction blocks mix 20 bytes back for each
unfoldable pub moved_blocks : Shape → ℕ → Spot → Spot
moved_blocks sh zero s = s
moved_blocks sh (suc n) s = moved_blocks sh n (moved sh 20 s)

-- k bytes are extracted ..
unfoldable pub extracted_from : Shape → ℕ → Spot → Spot
extracted_from sh k s = moved_blocks sh (blocks_of k) s

-- .. at so many compressions: the whole pool's for each block
unfoldable pub costs : Shape → ℕ → ℕ
costs sh k = rounds sh * blocks_of k
