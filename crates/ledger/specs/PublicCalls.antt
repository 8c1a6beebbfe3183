-- A call without what is secret: its kind and its public fields (clock, device, event value, interrupt number, length, credit).
use Rattle.std.specs.Prelude.{ℕ}

pub data PublicCall : Type 0 where
  -- device, now, value
  event : ℕ → ℕ → ℕ → PublicCall
  -- now, number
  interrupt : ℕ → ℕ → PublicCall
  -- length
  write : ℕ → PublicCall
  -- now, length, credit
  seed : ℕ → ℕ → ℕ → PublicCall
  -- now, length
  read : ℕ → ℕ → PublicCall
  -- length
  blocking_read : ℕ → PublicCall

-- bytes that a call brings for the input pool
abbrev pub brings : PublicCall → ℕ
brings (event device now value) = 16
brings (interrupt now number) = 16
brings (write len) = len
brings (seed now len credit) = len
brings (read now len) = 0
brings (blocking_read len) = 0

-- bytes that a call asks for: the length of its output room
abbrev pub asked : PublicCall → ℕ
asked (event device now value) = 0
asked (interrupt now number) = 0
asked (write len) = 0
asked (seed now len credit) = 0
asked (read now len) = len
asked (blocking_read len) = len

-- the device whose timer a call may keep
abbrev pub device_of : PublicCall → ℕ
device_of (event device now value) = device
device_of (interrupt now number) = 0
device_of (write len) = 0
device_of (seed now len credit) = 0
device_of (read now len) = 0
device_of (blocking_read len) = 0
