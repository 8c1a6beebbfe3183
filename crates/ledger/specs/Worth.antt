-- What a credit was worth: the units that an answer tells, by the pool that they went to, and the equation that holds of both counts.
use Rattle.std.specs.Prelude.{◌≡◌, ℕ, ◌+◌, ◌*◌}
use Rattle.ledger.specs.PublicCalls.{PublicCall, event, interrupt, write, seed, read, blocking_read}
use Rattle.ledger.specs.declared.Ledger.{Ledger}
use Rattle.ledger.specs.declared.Plan.{Plan}
use Rattle.ledger.specs.declared.Answer.{Answer}

-- a number n of a call's answer, as far as it is one of the input pool: device events, interrupts and seeds credit that pool
abbrev pub of_input : PublicCall → ℕ → ℕ
of_input (event device now value) n = n
of_input (interrupt now number) n = n
of_input (write len) n = 0
of_input (seed now len credit) n = n
of_input (read now len) n = 0
of_input (blocking_read len) n = 0

-- .. and as far as it is one of the blocking pool, which blocking reads credit, and deliver from. No other call adds anything
abbrev pub of_blocking : PublicCall → ℕ → ℕ
of_blocking (event device now value) n = 0
of_blocking (interrupt now number) n = 0
of_blocking (write len) n = 0
of_blocking (seed now len credit) n = 0
of_blocking (read now len) n = 0
of_blocking (blocking_read len) n = n

-- the bytes that a plan takes from the input pool: onto the key, and into the blocking pool
abbrev pub taken_from_input : Plan → ℕ
taken_from_input p = p.reseed + p.transfer

-- a call, the ledger before it, its plan, the ledger afterwards and the answer: what is told is what was added to the two pools, and each
-- count, with 64 for each byte taken from it, is the count before with what was added to it
pub record Worth (c : PublicCall) (before : Ledger) (p : Plan) (after : Ledger) (a : Answer) : Type 0 where
  pub added : a.added ≡ of_input c a.added + of_blocking c a.added
  pub input : after.input.count + 64 * taken_from_input p ≡ before.input.count + of_input c a.added
  pub blocking : after.blocking.count + 64 * of_blocking c a.delivered ≡ before.blocking.count + of_blocking c a.added
