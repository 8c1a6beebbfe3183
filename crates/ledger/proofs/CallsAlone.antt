-- What earlier calls leave of a fresh keeper, told by the calls alone: a device's timer is what the clocks of its kept events leave, device 0's value
-- is that of its last event, and the spill is what the clocks of the interrupts leave, whatever else was called.
use mathlib.Core.Path.{◌≡◌, refl, sym, ◌∙◌, ap}
use mathlib.Core.Bool.{Bool, true, false, ◌&&◌, not, and-true, and-false, false≢true}
use mathlib.Core.List.{List, [], ◌∷◌, reverse, reverse_aux}
use Prim.Native.Nat.{ℕ, ◌+◌, ◌<◌}
use native.Mathlib.Omega.{arith}
use lib.Dec.{ltb, leb, eqb}
use lib.IntN.{pos}
use lib.ListN.{get_or-replicate}
use borrow.Author.Tests.{leb-true, leb-false, lt-ltb, le-ltb, lt-leb, le-leb, ltb-true, ltb-false, eqb-true, eqb-false, ne_eqb}
use Rattle.ledger.specs.Choice.{pick}
use Rattle.ledger.specs.Sizes.{devices}
use Rattle.ledger.specs.Clocks.{next_timer, clock_diff, exceeds, event_bits}
use Rattle.ledger.specs.Timers.{Timers, timer_of, kept}
use Rattle.ledger.specs.Marks.{stays, tallied, spilled, valued}
use Rattle.ledger.specs.Range.{View}
use Rattle.ledger.specs.PublicCalls.{PublicCall, event, interrupt, write, seed, read, blocking_read, device_of}
use Rattle.ledger.specs.Plans.{idle, plan_of, feed, keeping, plan_event, plan_interrupt, plan_write, plan_seed, plan_read, plan_blocking_read, plan_call}
use Rattle.ledger.specs.Machine.{fresh_view, view_under, planned, plan_at, step_view}
use Rattle.ledger.specs.Earned.{last_value, is_kept, kept_clocks}
use Rattle.ledger.specs.Awards.{interrupt_clocks, spills, spill_by}
use Rattle.ledger.specs.declared.Ledger.{Ledger}
use Rattle.ledger.specs.declared.Plan.{Plan}
use Rattle.ledger.specs.declared.Spill.{Spill}
use Rattle.ledger.specs.declared.Timer.{Timer}
use Rattle.ledger.proofs.Picks.{pick_both, pick_by, and_left, and_right}
use Rattle.ledger.proofs.InRange.{Fine, fine_in_range, plan_at_is, step-fine, fresh-fine, view_after}
use Rattle.ledger.proofs.KeptTimers.{Rows, kept_rows, kept_same, kept_other, fresh_rows, timer_by}

-- ---- what earlier calls leave
-- a view that a fresh keeper has after these calls, newest first, as far as awards go by it
pub record Follows (earlier : List PublicCall) (v : View) : Type 0 where
  pub fine : Fine v
  pub rows : Rows devices v.timers
  pub timers : (device : ℕ) → device < devices → timer_of v.timers device ≡ timer_by (kept_clocks device earlier)
  pub value : v.ledger.value ≡ last_value earlier
  pub spill : v.ledger.spill ≡ spill_by (interrupt_clocks earlier)

-- ---- plans
-- in range, no call is answered 17
pub plan_in_range : (v : View) (c : PublicCall) → Fine v → plan_at v c ≡ plan_call v.ledger (timer_of v.timers (device_of c)) c
unfolding pick
plan_in_range v c f = rw (plan_at_is v c, fine_in_range v f) refl

-- the plan for an event: nothing is done, and the value that is kept stays; or the event is kept
pub data EventPlan (d now value : ℕ) (earlier : List PublicCall) (t : Timer) (l : Ledger) : Plan → Type 0 where
  turned : (n : ℕ) → eqb n 0 ≡ false → is_kept d value earlier ≡ false → pick (eqb d 0) value l.value ≡ l.value → EventPlan d now value earlier t l (idle n l)
  keeps : is_kept d value earlier ≡ true → EventPlan d now value earlier t l (keeping (next_timer now t) (feed now false (event_bits now t) (valued d value l)))

pub event_plan : (d now value : ℕ) (earlier : List PublicCall) (t : Timer) (l : Ledger) → l.value ≡ last_value earlier → EventPlan d now value earlier t l (plan_event d now value t l)
unfolding plan_event pick
event_plan d now value earlier t l h =
    let P = EventPlan d now value earlier t l in
    pick_by P (leb devices d)
    (λ e.
    let far : devices < d + 1 = omega (arith, leb-true devices d e) in
    turned 4 refl (rw (le-ltb d devices (leb-true devices d e)) refl) (rw (ne_eqb d 0 (λ z. omega arith)) refl))
    (λ e.
    let near = lt-ltb d devices (leb-false devices d e) in
    pick_by P (eqb d 0 && eqb value l.value)
    (λ s.
    let x : value ≡ l.value = eqb-true value l.value (and_right (eqb d 0) _ s) in
    turned 7 refl (rw (near, sym h, s) refl) (rw (and_left (eqb d 0) _ s) x))
    (λ s. keeps (rw (near, sym h, s) refl)))

-- ---- after an event
-- a timer that was kept, and the others
kept_timers : (d now value : ℕ) (earlier : List PublicCall) (v : View) → Follows earlier v → is_kept d value earlier ≡ true
    → (device : ℕ) → device < devices → timer_of (kept d (next_timer now (timer_of v.timers d)) v.timers) device ≡ timer_by (kept_clocks device (event d now value ∷ earlier))
unfolding kept_clocks timer_by pick
kept_timers d now value earlier v f k device h = rw (k, and-true) (go (eqb d device) refl)
  where
    ts : Timers
    ts = v.timers

    go : (q : Bool) → eqb d device ≡ q → timer_of (kept d (next_timer now (timer_of ts d)) ts) device ≡ timer_by (pick q (now ∷ kept_clocks device earlier) (kept_clocks device earlier))
    go true q =
        let s : d ≡ device = eqb-true d device q in
        rw s (kept_same ts device _ h f.rows ∙ ap (next_timer now) (f.timers device h))
    go false q = kept_other ts d device _ (λ s. eqb-false d device q (cc)) ∙ f.timers device h

under_event : (d now value : ℕ) (earlier : List PublicCall) (v : View) (p : Plan) → Follows earlier v → EventPlan d now value earlier (timer_of v.timers d) v.ledger p
    → Fine (view_under (event d now value) p v) → Follows (event d now value ∷ earlier) (view_under (event d now value) p v)
unfolding kept_clocks last_value interrupt_clocks feed pick
under_event d now value earlier v p f (turned n z k w) g =
    record {
      fine = g;
      rows = f.rows;
      timers = λ device h. rw (k, and-false) (f.timers device h);
      value = rw (sym f.value) (sym w);
      spill = f.spill;
    }
under_event d now value earlier v p f (keeps k) g =
    record {
      fine = g;
      rows = kept_rows v.timers d _ f.rows;
      timers = kept_timers d now value earlier v f k;
      value = rw f.value refl;
      spill = f.spill;
    }

-- ---- after an interrupt
-- it spills exactly where it does not only stir
pub spills_is : (now : ℕ) (l : Ledger) → spills now l.spill ≡ not (stays now l)
spills_is now l = go (ltb n 64) refl (exceeds (clock_diff now l.spill.clock) 1000) refl
  where
    n : ℕ
    n = l.spill.tally + 1

    go : (q : Bool) → ltb n 64 ≡ q → (late : Bool) → exceeds (clock_diff now l.spill.clock) 1000 ≡ late → spills now l.spill ≡ not (stays now l)
    go true q true e = rw (q, e, lt-leb 64 n (ltb-true n 64 q)) refl
    go true q false e = rw (q, e, lt-leb 64 n (ltb-true n 64 q)) refl
    go false q late e = rw (q, e, le-leb 64 n (ltb-false n 64 q)) refl

-- the spill that its clock leaves
interrupt_spill : (now : ℕ) (l : Ledger) (before : List ℕ) → l.spill ≡ spill_by before → (plan_interrupt now l).ledger.spill ≡ spill_by (now ∷ before)
unfolding plan_interrupt spill_by feed pick
interrupt_spill now l before e = rw (sym e, spills_is now l) (go (stays now l))
  where
    go : (q : Bool) → (pick q (plan_of 0 (tallied l) 0 true false 0 0 0 0) (feed now true 1 (spilled now l))).ledger.spill
        ≡ pick (not q) (record { tally = 0; clock = now }) (record { tally = l.spill.tally + 1; clock = l.spill.clock })
    go true = refl
    go false = refl

-- ---- after any call
-- what a call that is no event does: it keeps no timer and no value, and leaves this spill
record Apart (l : Ledger) (s : Spill) (p : Plan) : Type 0 where
  keeps : p.keeps ≡ false
  value : p.ledger.value ≡ l.value
  spill : p.ledger.spill ≡ s

none : (n : ℕ) (l : Ledger) → Apart l l.spill (idle n l)
none n l = record { keeps = refl; value = refl; spill = refl }

-- an interrupt spills as its clock says, and all else leaves the spill as it is
spill_with : PublicCall → Ledger → Spill
spill_with (event device now value) l = l.spill
spill_with (interrupt now number) l = (plan_interrupt now l).ledger.spill
spill_with (write len) l = l.spill
spill_with (seed now len credit) l = l.spill
spill_with (read now len) l = l.spill
spill_with (blocking_read len) l = l.spill

-- an event or none
abbrev is_event : PublicCall → Bool
is_event (event d now value) = true
is_event (interrupt now number) = false
is_event (write len) = false
is_event (seed now len credit) = false
is_event (read now len) = false
is_event (blocking_read len) = false

interrupt_apart : (now : ℕ) (l : Ledger) → Apart l (plan_interrupt now l).ledger.spill (plan_interrupt now l)
unfolding plan_interrupt feed
interrupt_apart now l =
    pick_both (λ (p : Plan). Apart l p.ledger.spill p) (stays now l) (record { keeps = refl; value = refl; spill = refl }) (record { keeps = refl; value = refl; spill = refl })

apart : (l : Ledger) (t : Timer) (c : PublicCall) → is_event c ≡ false → Apart l (spill_with c l) (plan_call l t c)
unfolding plan_call plan_write plan_seed plan_read plan_blocking_read spill_with feed
apart l t (event d now value) h = absurd (false≢true (sym h))
apart l t (interrupt now number) h = interrupt_apart now l
apart l t (write len) h = let P = Apart l l.spill in pick_both P _ (none 3 l) (record { keeps = refl; value = refl; spill = refl })
apart l t (seed now len credit) h =
    let P = Apart l l.spill in
    pick_both P _ (none 3 l) (pick_both P _ (none 5 l) (record { keeps = refl; value = refl; spill = refl }))
apart l t (read now len) h =
    let P = Apart l l.spill in
    pick_both P _ (none 3 l) (pick_both P _ (none 0 l) (pick_both P _ (none 2 l) (record { keeps = refl; value = refl; spill = refl })))
apart l t (blocking_read len) h =
    let P = Apart l l.spill in
    pick_both P _ (none 3 l) (pick_both P _ (none 0 l) (pick_both P _ (none 1 l) (record { keeps = refl; value = refl; spill = refl })))

-- a call that is no event leaves the same clocks and the same value
record Same (earlier later : List PublicCall) : Type 0 where
  clocks : (device : ℕ) → kept_clocks device later ≡ kept_clocks device earlier
  value : last_value later ≡ last_value earlier

after_other : (v : View) (c : PublicCall) (earlier : List PublicCall) → is_event c ≡ false → Same earlier (c ∷ earlier)
    → spill_with c v.ledger ≡ spill_by (interrupt_clocks (c ∷ earlier)) → Follows earlier v → Follows (c ∷ earlier) (step_view v c).view
unfolding step_view planned pick
after_other v c earlier h s e f =
    let a = apart v.ledger (timer_of v.timers (device_of c)) c h in
    let p = plan_in_range v c f.fine in
    let k : (plan_at v c).keeps ≡ false = rw p a.keeps in
    record {
      fine = step-fine v c f.fine;
      rows = rw k f.rows;
      timers = λ device g. rw (k, s.clocks device) (f.timers device g);
      value = rw (p, s.value) (a.value ∙ f.value);
      spill = rw p (a.spill ∙ e);
    }

pub after_call : (v : View) (c : PublicCall) (earlier : List PublicCall) → Follows earlier v → Follows (c ∷ earlier) (step_view v c).view
unfolding kept_clocks last_value interrupt_clocks spill_with step_view planned plan_call
after_call v (event d now value) earlier f =
    let c = event d now value in
    let e = plan_in_range v c f.fine in
    under_event d now value earlier v (plan_at v c) f (rw e (event_plan d now value earlier (timer_of v.timers d) v.ledger f.value)) (step-fine v c f.fine)
after_call v (interrupt now number) earlier f =
    after_other v (interrupt now number) earlier refl (record { clocks = λ device. refl; value = refl }) (interrupt_spill now v.ledger (interrupt_clocks earlier) f.spill) f
after_call v (write len) earlier f = after_other v (write len) earlier refl (record { clocks = λ device. refl; value = refl }) f.spill f
after_call v (seed now len credit) earlier f = after_other v (seed now len credit) earlier refl (record { clocks = λ device. refl; value = refl }) f.spill f
after_call v (read now len) earlier f = after_other v (read now len) earlier refl (record { clocks = λ device. refl; value = refl }) f.spill f
after_call v (blocking_read len) earlier f = after_other v (blocking_read len) earlier refl (record { clocks = λ device. refl; value = refl }) f.spill f

-- after any calls
after_calls : (v : View) (cs earlier : List PublicCall) → Follows earlier v → Follows (reverse_aux cs earlier) (view_after v cs)
unfolding view_after
after_calls v [] earlier f = f
after_calls v (c ∷ cs) earlier f = after_calls (step_view v c).view cs (c ∷ earlier) (after_call v c earlier f)

-- a fresh keeper, on which no call was made
pub fresh_follows : Follows [] fresh_view
unfolding timer_by kept_clocks last_value interrupt_clocks spill_by
fresh_follows =
    record {
      fine = fresh-fine;
      rows = fresh_rows;
      timers = λ device h. rw (get_or-replicate {A = ℕ} devices device 0 0 h, get_or-replicate devices device (pos 0) (pos 0) h);
      value = refl;
      spill = refl;
    }

-- FROM A FRESH KEEPER ON, whatever the calls, its timers, its value and its spill are what the calls alone tell
pub follows : (cs : List PublicCall) → Follows (reverse cs) (view_after fresh_view cs)
follows cs = after_calls fresh_view cs [] fresh_follows

-- of a device's timer
pub timer_by_clocks : (device : ℕ) (cs : List PublicCall) → device < devices → timer_of (view_after fresh_view cs).timers device ≡ timer_by (kept_clocks device (reverse cs))
timer_by_clocks device cs h = (follows cs).timers device h
