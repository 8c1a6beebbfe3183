-- The ledger of bits: what blocking reads hand out is paid for by what calls awarded, with a loss of at least a quarter at each of two pools.
--
-- Counts are in eighths of a bit, units: a bit is 8 of them, a byte 64. Crediting n bits adds at most three quarters of their 8 n units: six
-- units a bit. A byte that is taken costs 64, so a bit awarded pays for at most 6/64 of a byte brought over. Such a byte is credited as
-- eight bits, which add at most 48 units, and a byte delivered costs 64 again: at most 48/64 of a byte for each. Together that is 6/64 × 48/64
-- = 9/128 of a byte for a bit, which is nine sixteenths of a bit for each bit awarded: 8 × delivered ≤ 9/16 × awarded.
use Rattle.std.specs.Prelude.{◌≡◌, List, [], ◌∷◌, ℕ, ◌+◌, ◌*◌, ◌≤◌}
use Rattle.ledger.specs.Range.{View}
use Rattle.ledger.specs.PublicCalls.{PublicCall}
use Rattle.ledger.specs.Machine.{plan_at, step_view}
use Rattle.ledger.specs.Worth.{of_input, of_blocking}
use Rattle.ledger.specs.Awards.{awarded}
use Rattle.ledger.specs.declared.Plan.{Plan}
use Rattle.ledger.specs.declared.Answer.{Answer}

-- a number of each answer, summed over calls and what they were answered
unfoldable pub summed : (PublicCall → Answer → ℕ) → List PublicCall → List Answer → ℕ
summed f [] answers = 0
summed f (c ∷ cs) [] = 0
summed f (c ∷ cs) (a ∷ answers) = f c a + summed f cs answers

-- the bytes that blocking reads handed out
abbrev pub delivered : List PublicCall → List Answer → ℕ
delivered = summed (λ (c : PublicCall) (a : Answer). of_blocking c a.delivered)

-- the units added to the input pool, by events, interrupts and seeds; and to the blocking pool, by blocking reads
abbrev pub added_to_input : List PublicCall → List Answer → ℕ
added_to_input = summed (λ (c : PublicCall) (a : Answer). of_input c a.added)

abbrev pub added_to_blocking : List PublicCall → List Answer → ℕ
added_to_blocking = summed (λ (c : PublicCall) (a : Answer). of_blocking c a.added)

-- of a view: what calls on it are answered, one after another; and bytes that their plans take, summed
unfoldable pub answers_from : View → List PublicCall → List Answer
answers_from v [] = []
answers_from v (c ∷ cs) = let s = step_view v c in s.answer ∷ answers_from s.view cs

unfoldable pub taken_from : (Plan → ℕ) → View → List PublicCall → ℕ
taken_from f v [] = 0
taken_from f v (c ∷ cs) = f (plan_at v c) + taken_from f (step_view v c).view cs

abbrev pub reseeds_from : View → List PublicCall → ℕ
reseeds_from = taken_from (λ (p : Plan). p.reseed)

abbrev pub transfers_from : View → List PublicCall → ℕ
transfers_from = taken_from (λ (p : Plan). p.transfer)

-- the books after calls on a fresh keeper, by what the calls were answered, by the counts of both pools that they left, and by the bytes that they
-- took from the input pool: for reseeds, onto the key, and for transfers, into the blocking pool
pub record Books (cs : List PublicCall) (answers : List Answer) (input_count blocking_count reseeds transfers : ℕ) : Type 0 where
  -- THE LEDGER
  pub ledger : 128 * delivered cs answers ≤ 9 * awarded cs
  -- THE EQUATION, of either pool: what was added is what is there, and 64 for each byte taken
  pub input : added_to_input cs answers ≡ input_count + 64 * (reseeds + transfers)
  pub blocking : added_to_blocking cs answers ≡ blocking_count + 64 * delivered cs answers
  -- and why the ledger holds: six units a bit, forty-eight a byte brought over
  pub damped : added_to_input cs answers ≤ 6 * awarded cs
  pub passed : added_to_blocking cs answers ≤ 48 * transfers
