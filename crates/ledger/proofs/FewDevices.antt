-- A table of few timers shows what a longer one does: further devices that had no event have no say in any call on others. So what is computed
-- of sixteen timers holds of any number of them, and no long list has to be computed.
use mathlib.Core.Path.{◌≡◌, refl, sym, ap, ◌∙◌}
use mathlib.Core.Bool.{Bool, true, false, ◌||◌, false≢true}
use mathlib.Core.List.{List, [], ◌∷◌, ◌++◌}
use Prim.Native.Nat.{ℕ, zero, suc, ◌+◌, ◌<◌}
use native.Mathlib.Omega.{arith}
use lib.Dec.{ltb, leb}
use lib.IntN.{pos}
use lib.ListN.{length, get_or, set, replicate, replicate-append-replicate}
use borrow.Author.Tests.{ltb-true}
use Rattle.ledger.specs.Choice.{pick}
use Rattle.ledger.specs.Sizes.{devices}
use Rattle.ledger.specs.Timers.{Timers, timers_of, timer_of, kept}
use Rattle.ledger.specs.Range.{View, every, first_in_range, second_in_range, came_in_range, others_in_range}
use Rattle.ledger.specs.PublicCalls.{PublicCall, event, interrupt, write, seed, read, blocking_read, device_of}
use Rattle.ledger.specs.Plans.{plan_event, plan_call, decide}
use Rattle.ledger.specs.Machine.{fresh_view, timers_after, planned, plan_at, step_view}
use Rattle.ledger.specs.declared.Ledger.{Ledger}
use Rattle.ledger.specs.declared.Plan.{Plan}
use Rattle.ledger.specs.declared.Timer.{Timer}
use Rattle.ledger.proofs.Picks.{pick_both, and_left, and_right}
use Rattle.ledger.proofs.InRange.{view_after}
use Rattle.ledger.proofs.KeptTimers.{Rows, kept_rows}

-- ---- lists that go on with the same element
get_or-none : {A : Type 0} (k i : ℕ) (z : A) → get_or (replicate k z) i z ≡ z
get_or-none zero i z = refl
get_or-none (suc k) zero z = refl
get_or-none (suc k) (suc i) z = get_or-none k i z

get_or-more : {A : Type 0} (xs : List A) (k i : ℕ) (z : A) → get_or (xs ++ replicate k z) i z ≡ get_or xs i z
get_or-more [] k i z = get_or-none k i z
get_or-more (x ∷ xs) k zero z = refl
get_or-more (x ∷ xs) k (suc i) z = get_or-more xs k i z

every_more : {A : Type 0} (f : A → Bool) (xs : List A) (k : ℕ) (z : A) → f z ≡ true → every f (xs ++ replicate k z) ≡ every f xs
every_more f [] zero z h = refl
every_more f [] (suc k) z h = rw h (every_more f [] k z h)
every_more f (x ∷ xs) k z h = rw (every_more f xs k z h)

set_more : {A : Type 0} (xs ys : List A) (i : ℕ) (a : A) → i < length xs → set (xs ++ ys) i a ≡ set xs i a ++ ys
set_more [] ys i a h = absurd (omega arith)
set_more (x ∷ xs) ys zero a h = refl
set_more (x ∷ xs) ys (suc i) a h = ap (λ (l : List _). x ∷ l) (set_more xs ys i a (omega arith))

-- ---- k further devices, of which none had an event
abbrev pub more : ℕ → Timers → Timers
more k ts = timers_of (ts.clocks ++ replicate k 0) (ts.firsts ++ replicate k (pos 0)) (ts.seconds ++ replicate k (pos 0)) (ts.came ++ replicate k 0)

abbrev pub with_more : ℕ → View → View
with_more k v = record { ledger = v.ledger; timers = more k v.timers; fixed = v.fixed }

-- every device's timer is what it was, and so is the range test
pub timer_more : (k : ℕ) (ts : Timers) (device : ℕ) → timer_of (more k ts) device ≡ timer_of ts device
timer_more k ts device =
    rw (get_or-more ts.clocks k device 0, get_or-more ts.firsts k device (pos 0), get_or-more ts.seconds k device (pos 0), get_or-more ts.came k device 0)

range_more : (k : ℕ) (ts : Timers) (fixed : List ℕ) → others_in_range (more k ts) fixed ≡ others_in_range ts fixed
unfolding others_in_range
range_more k ts fixed =
    rw (every_more first_in_range ts.firsts k (pos 0) refl, every_more second_in_range ts.seconds k (pos 0) refl, every_more came_in_range ts.came k 0 refl)

-- so every call has the same plan, and the same answer
pub plan_more : (k : ℕ) (v : View) (c : PublicCall) → plan_at (with_more k v) c ≡ plan_at v c
plan_more k v c = rw (range_more k v.timers v.fixed, timer_more k v.timers (device_of c))

-- ---- calls on devices that the table has, or that no keeper has
abbrev pub held : ℕ → PublicCall → Bool
held n c = ltb (device_of c) n || leb devices (device_of c)

-- an event of a device that no keeper has keeps no timer
record Unkept (p : Plan) : Type 0 where
  unkept : p.keeps ≡ false

event_none : (device now value : ℕ) (t : Timer) (l : Ledger) → leb devices device ≡ true → Unkept (plan_event device now value t l)
unfolding plan_event pick
event_none device now value t l h = rw h (record { unkept = refl })

no_device : (others : Bool) (l : Ledger) (t : Timer) (c : PublicCall) → leb devices (device_of c) ≡ true → Unkept (decide others l t c)
unfolding decide plan_call
no_device others l t (event device now value) h = pick_both Unkept _ (event_none device now value t l h) (record { unkept = refl })
no_device others l t (interrupt now number) h = absurd (false≢true h)
no_device others l t (write len) h = absurd (false≢true h)
no_device others l t (seed now len credit) h = absurd (false≢true h)
no_device others l t (read now len) h = absurd (false≢true h)
no_device others l t (blocking_read len) h = absurd (false≢true h)

-- what is kept is kept in the table, and the further devices stay as they are
kept_more : (n k device : ℕ) (t : Timer) (ts : Timers) → device < n → Rows n ts → kept device t (more k ts) ≡ more k (kept device t ts)
kept_more n k device t ts h r =
    rw (set_more ts.clocks (replicate k 0) device t.clock (omega (arith, r.clocks)), set_more ts.firsts (replicate k (pos 0)) device t.d1 (omega (arith, r.firsts)), set_more ts.seconds (replicate k (pos 0)) device t.d2 (omega (arith, r.seconds)), set_more ts.came (replicate k 0) device t.came (omega (arith, r.came)))

after_more : (n k device : ℕ) (p : Plan) (ts : Timers) → (p.keeps ≡ true → device < n) → Rows n ts → timers_after device p (more k ts) ≡ more k (timers_after device p ts)
unfolding pick
after_more n k device p ts h r = go p.keeps refl
  where
    go : (b : Bool) → p.keeps ≡ b → pick b (kept device p.timer (more k ts)) (more k ts) ≡ more k (pick b (kept device p.timer ts) ts)
    go true e = kept_more n k device p.timer ts (h e) r
    go false e = refl

-- a timer is kept of a device that the table has
keeps_held : (n : ℕ) (v : View) (c : PublicCall) → held n c ≡ true → (plan_at v c).keeps ≡ true → device_of c < n
keeps_held n v c h k = go (ltb (device_of c) n) refl
  where
    go : (b : Bool) → ltb (device_of c) n ≡ b → device_of c < n
    go true e = ltb-true (device_of c) n e
    go false e =
        let d : leb devices (device_of c) ≡ true = rw e at h in
        let u = no_device (others_in_range v.timers v.fixed) v.ledger (timer_of v.timers (device_of c)) c d in
        absurd (false≢true (sym u.unkept ∙ k))

-- ONE CALL: the same answer, and the same view but for the further devices
pub step-more : (n k : ℕ) (v : View) (c : PublicCall) → held n c ≡ true → Rows n v.timers
    → step_view (with_more k v) c ≡ record { view = with_more k (step_view v c).view; answer = (step_view v c).answer }
unfolding step_view planned
step-more n k v c h r = rw (plan_more k v c, after_more n k (device_of c) (plan_at v c) v.timers (keeps_held n v c h) r)

pub step_rows : (n : ℕ) (v : View) (c : PublicCall) → Rows n v.timers → Rows n (step_view v c).view.timers
unfolding step_view planned
step_rows n v c r = pick_both (Rows n) (plan_at v c).keeps (kept_rows v.timers (device_of c) (plan_at v c).timer r) r

-- ANY CALLS
pub view_more : (n k : ℕ) (v : View) (cs : List PublicCall) → every (held n) cs ≡ true → Rows n v.timers → view_after (with_more k v) cs ≡ with_more k (view_after v cs)
unfolding view_after
view_more n k v [] h r = refl
view_more n k v (c ∷ cs) h r =
    rw (step-more n k v c (and_left (held n c) (every (held n) cs) h) r) (view_more n k (step_view v c).view cs (and_right (held n c) (every (held n) cs) h) (step_rows n v c r))

-- a fresh view with few timers, and further devices up to all that there are: the fresh view
abbrev pub fresh_of : ℕ → View
fresh_of n = record { ledger = fresh_view.ledger; timers = timers_of (replicate n 0) (replicate n (pos 0)) (replicate n (pos 0)) (replicate n 0); fixed = fresh_view.fixed }

pub fresh-more : (n k : ℕ) → with_more k (fresh_of n) ≡ fresh_of (n + k)
fresh-more n k =
    rw (replicate-append-replicate {A = ℕ} n k 0, replicate-append-replicate n k (pos 0))
