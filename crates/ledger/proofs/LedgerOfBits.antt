-- The ledger of bits, over any calls from a fresh keeper on: of every call it is shown that its credit adds at most six units for each bit that
-- it awards and at most forty-eight for each byte that it brings over, and that both counts balance; then all is summed.
use mathlib.Core.Path.{◌≡◌, refl}
use mathlib.Core.Bool.{Bool, true, false}
use mathlib.Core.List.{List, [], ◌∷◌, sum}
use Prim.Native.Nat.{ℕ, ◌+◌, ◌*◌, ◌≤◌, ◌<◌}
use native.Mathlib.Omega.{arith}
use lib.Dec.{ltb}
use borrow.Author.Tests.{ltb-true, ltb-false}
use Rattle.ledger.specs.Shapes.{input_shape, blocking_shape}
use Rattle.ledger.specs.Range.{View}
use Rattle.ledger.specs.PublicCalls.{PublicCall, event, interrupt, write, seed, read, blocking_read}
use Rattle.ledger.specs.Plans.{idle, transferred, plan_blocking_read, plan_call, decide}
use Rattle.ledger.specs.Machine.{fresh_view, planned, plan_at, step_view}
use Rattle.ledger.specs.Worth.{of_input, of_blocking}
use Rattle.ledger.specs.Awards.{awards_from, awarded, given}
use Rattle.ledger.specs.LedgerOfBits.{summed, delivered, added_to_input, added_to_blocking, answers_from, taken_from, reseeds_from, transfers_from, Books}
use Rattle.ledger.specs.declared.Ledger.{Ledger}
use Rattle.ledger.specs.declared.Plan.{Plan}
use Rattle.ledger.specs.declared.Answer.{Answer}
use Rattle.ledger.proofs.Picks.{pick_both}
use Rattle.ledger.proofs.Crediting.{credited_bound}
use Rattle.ledger.proofs.InRange.{view_after}
use Rattle.ledger.proofs.Worth.{worth}
use Rattle.ledger.proofs.CallsAlone.{Follows, after_call, fresh_follows}
use Rattle.ledger.proofs.Awarded.{award-given, given-credited}

-- ---- one call
-- six units a bit
six_a_bit : (v : View) (c : PublicCall) → of_input c (step_view v c).answer.added ≤ 6 * given v c
six_a_bit v c =
    let b = credited_bound input_shape.size (given v c) v.ledger.input.count (omega arith) in
    omega (arith, given-credited v c, b)

-- forty-eight units a byte
record Passes (p : Plan) : Type 0 where
  passed : p.added ≤ 48 * p.transfer

idle_passes : (n : ℕ) (l : Ledger) → Passes (idle n l)
idle_passes n l = record { passed = omega arith }

blocking_passes : (n : ℕ) (l : Ledger) → Passes (plan_blocking_read n l)
unfolding plan_blocking_read
blocking_passes n l =
    let b = credited_bound blocking_shape.size (8 * transferred n l) l.blocking.count (omega arith) in
    pick_both Passes _ (idle_passes 3 l) (pick_both Passes _ (idle_passes 0 l) (pick_both Passes _ (idle_passes 1 l) (record { passed = omega (arith, b) })))

forty_eight_a_byte : (v : View) (c : PublicCall) → of_blocking c (step_view v c).answer.added ≤ 48 * (plan_at v c).transfer
unfolding step_view planned decide plan_call
forty_eight_a_byte v (event device now value) = omega arith
forty_eight_a_byte v (interrupt now number) = omega arith
forty_eight_a_byte v (write len) = omega arith
forty_eight_a_byte v (seed now len credit) = omega arith
forty_eight_a_byte v (read now len) = omega arith
forty_eight_a_byte v (blocking_read len) = (pick_both Passes _ (blocking_passes len v.ledger) (idle_passes 17 v.ledger)).passed

-- ---- calls one after another
-- the books between a view that the earlier calls left and what later calls leave
record Between (earlier : List PublicCall) (v : View) (cs : List PublicCall) : Type 0 where
  input : v.ledger.input.count + added_to_input cs (answers_from v cs) ≡ (view_after v cs).ledger.input.count + 64 * (reseeds_from v cs + transfers_from v cs)
  blocking : v.ledger.blocking.count + added_to_blocking cs (answers_from v cs) ≡ (view_after v cs).ledger.blocking.count + 64 * delivered cs (answers_from v cs)
  damped : added_to_input cs (answers_from v cs) ≤ 6 * sum ◌+◌ 0 (awards_from earlier cs)
  passed : added_to_blocking cs (answers_from v cs) ≤ 48 * transfers_from v cs

between : (earlier : List PublicCall) (v : View) (cs : List PublicCall) → Follows earlier v → Between earlier v cs
unfolding view_after answers_from taken_from summed awards_from sum
between earlier v [] f = record { input = omega arith; blocking = omega arith; damped = omega arith; passed = omega arith }
between earlier v (c ∷ cs) f =
    let w = worth v c in
    let b = between (c ∷ earlier) (step_view v c).view cs (after_call v c earlier f) in
    record {
      input = omega (arith, w.input, b.input);
      blocking = omega (arith, w.blocking, b.blocking);
      damped = omega (arith, award-given v c earlier f, six_a_bit v c, b.damped);
      passed = omega (arith, forty_eight_a_byte v c, b.passed);
    }

-- THE BOOKS after any calls on a fresh keeper
pub books : (cs : List PublicCall) → let l = (view_after fresh_view cs).ledger in
    Books cs (answers_from fresh_view cs) l.input.count l.blocking.count (reseeds_from fresh_view cs) (transfers_from fresh_view cs)
books cs =
    let b = between [] fresh_view cs fresh_follows in
    record {
      ledger = omega (arith, b.input, b.blocking, b.damped, b.passed);
      input = omega (arith, b.input);
      blocking = omega (arith, b.blocking);
      damped = b.damped;
      passed = b.passed;
    }

-- WHAT IS LEFT is paid for too: the bound is missed at least by what is still counted, 3/2 for a unit of the input pool and 2 for one of the blocking
-- pool, and by 96 for each byte that went onto the key; so only a keeper whose counts are 0 and which was never seeded can meet it
pub spent : {cs : List PublicCall} {answers : List Answer} {input_count blocking_count reseeds transfers : ℕ} → Books cs answers input_count blocking_count reseeds transfers
    → 256 * delivered cs answers + 3 * input_count + 4 * blocking_count + 192 * reseeds ≤ 18 * awarded cs
spent b = omega (arith, b.input, b.blocking, b.damped, b.passed)

-- and where it is missed, it is missed by 3 or more: what dampening took, what is left and what went onto the key come to whole threes and thirty-twos
apart_by_3 : (a d r t : ℕ) → 32 * (r + t) ≤ 3 * a → 4 * d ≤ 3 * t → 128 * d < 9 * a → 128 * d + 3 ≤ 9 * a
apart_by_3 a d r t f g h = go (ltb (32 * (r + t)) (3 * a)) refl
  where
    go : (q : Bool) → ltb (32 * (r + t)) (3 * a) ≡ q → 128 * d + 3 ≤ 9 * a
    go true e = omega (arith, ltb-true (32 * (r + t)) (3 * a) e)
    go false e =
        let same : 3 * a ≡ 32 * (r + t) = omega (arith, ltb-false (32 * (r + t)) (3 * a) e) in
        let more : 4 * d < 3 * (r + t) = omega (arith, same) in
        omega (arith, same, more)

pub missed : {cs : List PublicCall} {answers : List Answer} {input_count blocking_count reseeds transfers : ℕ} → Books cs answers input_count blocking_count reseeds transfers
    → 128 * delivered cs answers < 9 * awarded cs → 128 * delivered cs answers + 3 ≤ 9 * awarded cs
missed {cs} {answers} {input_count} {blocking_count} {reseeds} {transfers} b h =
    apart_by_3 (awarded cs) (delivered cs answers) reseeds transfers (omega (arith, b.input, b.damped)) (omega (arith, b.blocking, b.passed)) h
