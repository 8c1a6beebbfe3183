-- The calls, with all their fields.
use Rattle.std.specs.Prelude.{ℕ, List, [], ◌++◌, length}
use Rattle.words.specs.Bytes.{le_bytes, words_bytes}
use Rattle.ledger.specs.PublicCalls.{PublicCall, event, interrupt, write, seed, read, blocking_read}
use Rattle.keeper.specs.FastPool.{stirred}

pub data Call : Type 0 where
  -- device, now, stamp, value
  device_event : ℕ → ℕ → ℕ → ℕ → Call
  -- now, number, stamp, instruction address
  interrupted : ℕ → ℕ → ℕ → ℕ → Call
  -- bytes
  written : List ℕ → Call
  -- now, bytes, credit
  seeded_with : ℕ → List ℕ → ℕ → Call
  -- now, length of the output room
  generator_read : ℕ → ℕ → Call
  -- length of the output room
  blocking_read_of : ℕ → Call

-- what is public of a call: all but stamps, addresses and fed bytes
abbrev pub public : Call → PublicCall
public (device_event device now stamp value) = event device now value
public (interrupted now number stamp address) = interrupt now number
public (written bs) = write (length bs)
public (seeded_with now bs credit) = seed now (length bs) credit
public (generator_read now len) = read now len
public (blocking_read_of len) = blocking_read len

-- the 16 bytes of a device event: stamp, now, value
abbrev pub event_bytes : ℕ → ℕ → ℕ → List ℕ
event_bytes stamp now value = le_bytes 8 stamp ++ (le_bytes 4 now ++ le_bytes 4 value)

-- the fast pool after a call, if the call stirs it
abbrev pub stirred_by : Call → List ℕ → List ℕ
stirred_by (device_event device now stamp value) f = f
stirred_by (interrupted now number stamp address) f = stirred now number stamp address f
stirred_by (written bs) f = f
stirred_by (seeded_with now bs credit) f = f
stirred_by (generator_read now len) f = f
stirred_by (blocking_read_of len) f = f

-- the bytes that a call brings for the input pool; of an interrupt, the fast pool as it then is
abbrev pub payload : Call → List ℕ → List ℕ
payload (device_event device now stamp value) f = event_bytes stamp now value
payload (interrupted now number stamp address) f = words_bytes f
payload (written bs) f = bs
payload (seeded_with now bs credit) f = bs
payload (generator_read now len) f = []
payload (blocking_read_of len) f = []
