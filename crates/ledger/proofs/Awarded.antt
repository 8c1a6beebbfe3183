-- What a call awards by the calls alone is what a keeper gives by its own record, call by call from a fresh keeper on; and what a keeper gives is
-- what it credits to its input pool.
use mathlib.Core.Path.{◌≡◌, refl, sym, ap, ◌∙◌}
use mathlib.Core.Bool.{Bool, true, false, ◌&&◌, not}
use mathlib.Core.List.{List, reverse}
use Prim.Native.Nat.{ℕ, ◌*◌, ◌<◌}
use native.Mathlib.Omega.{arith}
use lib.Dec.{ltb, leb, eqb}
use borrow.Author.Tests.{ltb-true, ltb-false, le-leb, lt-leb}
use Rattle.ledger.specs.Choice.{pick}
use Rattle.ledger.specs.Sizes.{devices, longest}
use Rattle.ledger.specs.Shapes.{input_shape}
use Rattle.ledger.specs.Credits.{credited, crediting}
use Rattle.ledger.specs.Clocks.{event_bits}
use Rattle.ledger.specs.Timers.{timer_of}
use Rattle.ledger.specs.Marks.{stays, tallied, spilled, valued}
use Rattle.ledger.specs.Range.{View}
use Rattle.ledger.specs.PublicCalls.{PublicCall, event, interrupt, write, seed, read, blocking_read}
use Rattle.ledger.specs.Plans.{idle, plan_of, feed, keeping, plan_event, plan_interrupt, plan_seed, plan_call, decide}
use Rattle.ledger.specs.Machine.{fresh_view, planned, step_view}
use Rattle.ledger.specs.Worth.{of_input}
use Rattle.ledger.specs.Earned.{kept_clocks}
use Rattle.ledger.specs.Awards.{award, given}
use Rattle.ledger.specs.declared.Ledger.{Ledger}
use Rattle.ledger.specs.declared.Plan.{Plan}
use Rattle.ledger.specs.declared.Timer.{Timer}
use Rattle.ledger.proofs.Picks.{pick_both, and_left}
use Rattle.ledger.proofs.InRange.{view_after}
use Rattle.ledger.proofs.CallsAlone.{Follows, EventPlan, turned, keeps, event_plan, plan_in_range, spills_is, follows}
use Rattle.ledger.proofs.NewDevices.{earned_by}

-- ---- the number of a plan decides
-- the bits of a call that is answered with a plan's number
abbrev paid : Plan → ℕ → ℕ
paid p bits = pick (eqb p.number 0) bits 0

-- of an event, by the clocks of its device's kept events
event_paid : (d now value : ℕ) (earlier : List PublicCall) (v : View) (p : Plan) → Follows earlier v → EventPlan d now value earlier (timer_of v.timers d) v.ledger p
    → award earlier (event d now value) ≡ paid p (event_bits now (timer_of v.timers d))
unfolding award feed pick
event_paid d now value earlier v p f (turned n z k w) = rw (k, z) refl
event_paid d now value earlier v p f (keeps k) =
    let h : d < devices = ltb-true d devices (and_left (ltb d devices) _ k) in
    rw k (sym (ap (event_bits now) (f.timers d h) ∙ earned_by now (kept_clocks d earlier)))

-- of an interrupt
interrupt_paid : (now : ℕ) (l : Ledger) → pick (not (stays now l)) 1 0 ≡ paid (plan_interrupt now l) (pick (stays now l) 0 1)
unfolding plan_interrupt feed pick
interrupt_paid now l = go (stays now l)
  where
    go : (q : Bool) → pick (not q) 1 0 ≡ paid (pick q (plan_of 0 (tallied l) 0 true false 0 0 0 0) (feed now true 1 (spilled now l))) (pick q 0 1)
    go true = refl
    go false = refl

-- of a seed
seed_paid : (now len credit : ℕ) (l : Ledger) → pick (leb len longest && leb credit (8 * len)) credit 0 ≡ paid (plan_seed now len credit l) credit
unfolding plan_seed feed pick
seed_paid now len credit l = go (ltb longest len) refl (ltb (8 * len) credit) refl
  where
    go : (q : Bool) → ltb longest len ≡ q → (r : Bool) → ltb (8 * len) credit ≡ r
        → pick (leb len longest && leb credit (8 * len)) credit 0 ≡ paid (pick q (idle 3 l) (pick r (idle 5 l) (feed now false credit l))) credit
    go true e r g = rw (lt-leb len longest (ltb-true longest len e)) refl
    go false e true g = rw (le-leb len longest (ltb-false longest len e), lt-leb credit (8 * len) (ltb-true (8 * len) credit g)) refl
    go false e false g = rw (le-leb len longest (ltb-false longest len e), le-leb credit (8 * len) (ltb-false (8 * len) credit g)) refl

-- of a call that earns nothing, however it is answered
no_bits : (t : Bool) → pick {A = ℕ} t 0 0 ≡ 0
no_bits t = pick_both (λ (n : ℕ). n ≡ 0) t refl refl

-- each call
pub award-given : (v : View) (c : PublicCall) (earlier : List PublicCall) → Follows earlier v → award earlier c ≡ given v c
unfolding award step_view planned plan_call
award-given v (event d now value) earlier f =
    let c = event d now value in
    rw (plan_in_range v c f.fine) (event_paid d now value earlier v _ f (event_plan d now value earlier (timer_of v.timers d) v.ledger f.value))
award-given v (interrupt now number) earlier f =
    rw (plan_in_range v (interrupt now number) f.fine, sym f.spill, spills_is now v.ledger) (interrupt_paid now v.ledger)
award-given v (write len) earlier f = sym (no_bits _)
award-given v (seed now len credit) earlier f = rw (plan_in_range v (seed now len credit) f.fine) (seed_paid now len credit v.ledger)
award-given v (read now len) earlier f = sym (no_bits _)
award-given v (blocking_read len) earlier f = sym (no_bits _)

-- THE AWARD: from a fresh keeper on, whatever the calls, each awards what the keeper's own timers and its own tally give
pub by_calls_alone : (cs : List PublicCall) (c : PublicCall) → award (reverse cs) c ≡ given (view_after fresh_view cs) c
by_calls_alone cs c = award-given (view_after fresh_view cs) c (reverse cs) (follows cs)

-- ---- what is given is what is credited
-- a plan that adds to the input pool what crediting these bits adds, if its number is 0, and else nothing
record Credits (bits : ℕ) (l : Ledger) (p : Plan) : Type 0 where
  is : p.added ≡ (crediting input_shape.size (paid p bits) l.input.count).added

nothing : (bits n : ℕ) (l : Ledger) → eqb n 0 ≡ false → Credits bits l (idle n l)
unfolding credited pick
nothing bits n l e = record { is = rw e (omega arith) }

-- a credit, of an event with a timer that is kept, and of a seed
keeps_credits : (d now value bits : ℕ) (t : Timer) (l : Ledger) → Credits bits l (keeping t (feed now false bits (valued d value l)))
unfolding feed pick
keeps_credits d now value bits t l = record { is = refl }

feeds : (now bits : ℕ) (l : Ledger) → Credits bits l (feed now false bits l)
unfolding feed pick
feeds now bits l = record { is = refl }

-- an interrupt that stirs adds nothing, one that spills a bit
interrupt_credits : (now : ℕ) (l : Ledger) → Credits (pick (stays now l) 0 1) l (plan_interrupt now l)
unfolding plan_interrupt feed credited pick
interrupt_credits now l = go (stays now l)
  where
    go : (q : Bool) → Credits (pick q 0 1) l (pick q (plan_of 0 (tallied l) 0 true false 0 0 0 0) (feed now true 1 (spilled now l)))
    go true = record { is = omega arith }
    go false = record { is = refl }

event_credits : (d now value : ℕ) (t : Timer) (l : Ledger) → Credits (event_bits now t) l (plan_event d now value t l)
unfolding plan_event
event_credits d now value t l =
    let P = Credits (event_bits now t) l in
    pick_both P _ (nothing _ 4 l refl) (pick_both P _ (nothing _ 7 l refl) (keeps_credits d now value _ _ l))

seed_credits : (now len credit : ℕ) (l : Ledger) → Credits credit l (plan_seed now len credit l)
unfolding plan_seed
seed_credits now len credit l =
    let P = Credits credit l in
    pick_both P _ (nothing _ 3 l refl) (pick_both P _ (nothing _ 5 l refl) (feeds now credit l))

-- no bits add nothing
unpaid : (t : Bool) (count : ℕ) → 0 ≡ (crediting input_shape.size (pick t 0 0) count).added
unfolding credited pick
unpaid t count = rw (no_bits t) (omega arith)

-- AT ANY VIEW, in range or not, a call adds to the input pool what crediting the given bits adds
pub given-credited : (v : View) (c : PublicCall) → of_input c (step_view v c).answer.added ≡ (crediting input_shape.size (given v c) v.ledger.input.count).added
unfolding step_view planned decide plan_call
given-credited v (event d now value) =
    (pick_both (Credits (event_bits now (timer_of v.timers d)) v.ledger) _ (event_credits d now value (timer_of v.timers d) v.ledger) (nothing _ 17 v.ledger refl)).is
given-credited v (interrupt now number) =
    (pick_both (Credits (pick (stays now v.ledger) 0 1) v.ledger) _ (interrupt_credits now v.ledger) (nothing _ 17 v.ledger refl)).is
given-credited v (write len) = unpaid _ v.ledger.input.count
given-credited v (seed now len credit) =
    (pick_both (Credits credit v.ledger) _ (seed_credits now len credit v.ledger) (nothing _ 17 v.ledger refl)).is
given-credited v (read now len) = unpaid _ v.ledger.input.count
given-credited v (blocking_read len) = unpaid _ v.ledger.input.count

-- so an award is what the input pool is credited with, call by call
pub award-credited : (cs : List PublicCall) (c : PublicCall) → let v = view_after fresh_view cs in
    of_input c (step_view v c).answer.added ≡ (crediting input_shape.size (award (reverse cs) c) v.ledger.input.count).added
award-credited cs c =
    let v = view_after fresh_view cs in
    given-credited v c ∙ sym (ap (λ (n : ℕ). (crediting input_shape.size n v.ledger.input.count).added) (by_calls_alone cs c))
