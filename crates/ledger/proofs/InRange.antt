-- A keeper in range stays in range, whatever is called, so no call after a fresh start is ever answered 17.
use mathlib.Core.Path.{◌≡◌, refl, sym, ◌∙◌}
use mathlib.Core.Bool.{Bool, true, false, ◌&&◌, false≢true}
use mathlib.Core.List.{List, [], ◌∷◌}
use Prim.Native.Nat.{ℕ, zero, suc, ◌+◌, ◌-◌, ◌*◌, ◌%◌, ◌^◌, ◌≤◌, ◌<◌}
use native.Mathlib.Omega.{arith}
use native.Mathlib.Nat.{mod-lt}
use lib.Dec.{ltb, leb, eqb}
use lib.ListN.{get_or, set}
use lib.IntN.{ℤ, pos, negsuc, sub_ℕ, ◌-ℤ◌}
use borrow.Author.Tests.{lt-ltb, le-leb, ltb-true, ltb-false, leb-true, eqb-true}
use Rattle.ledger.specs.Choice.{pick}
use Rattle.ledger.specs.Sizes.{input_size, blocking_size, events_before}
use Rattle.ledger.specs.Shapes.{Shape, input_shape, blocking_shape}
use Rattle.ledger.specs.Places.{stepped, moved, moved_blocks, blocks_of, extracted_from}
use Rattle.ledger.specs.Clocks.{signed, clock_diff, came_after, next_timer}
use Rattle.ledger.specs.Timers.{Timers, timer_of, kept}
use Rattle.ledger.specs.Marks.{counting, valued, tallied, spilled, stays}
use Rattle.ledger.specs.Range.{View, others_in_range, timer_in_range, timers_in_range, pool_in_range, within, first_in_range, second_in_range, came_in_range, every, fixed_words, same_words, ledger_in_range, in_range}
use Rattle.ledger.specs.PublicCalls.{PublicCall, event, interrupt, write, seed, read, blocking_read, brings, device_of}
use Rattle.ledger.specs.Plans.{plan_of, idle, feed, transferred, plan_event, plan_interrupt, plan_write, plan_seed, plan_read, plan_blocking_read, plan_call, decide}
use Rattle.ledger.specs.Machine.{fresh_view, input_moved, blocking_moved, planned, plan_at, step_view}
use Rattle.ledger.specs.declared.Gauge.{Gauge}
use Rattle.ledger.specs.declared.Ledger.{Ledger}
use Rattle.ledger.specs.declared.Plan.{Plan}
use Rattle.ledger.specs.declared.Spot.{Spot}
use Rattle.ledger.specs.declared.Timer.{Timer}
use Rattle.ledger.proofs.Picks.{pick_both, pick_by, and_left, and_right, both}
use Rattle.ledger.proofs.Crediting.{credited-room}

-- ---- in range, as facts
-- a position inside the pool, and a rotation of at most 31
pub record Placed (sh : Shape) (s : Spot) : Type 0 where
  pub at : s.at < sh.words
  pub turn : s.turn ≤ 31

-- a count within the pool's size, and such a spot
pub record PoolFine (sh : Shape) (g : Gauge) : Type 0 where
  pub count : g.count ≤ sh.size
  pub placed : Placed sh g.spot

-- both pools, and a tally of at most 63
pub record LedgerFine (l : Ledger) : Type 0 where
  pub input : PoolFine input_shape l.input
  pub blocking : PoolFine blocking_shape l.blocking
  pub tally : l.spill.tally ≤ 63

-- with it all timers in range, and generator words 0 to 3
pub record Fine (v : View) : Type 0 where
  pub ledger : LedgerFine v.ledger
  pub timers : timers_in_range v.timers ≡ true
  pub fixed : v.fixed ≡ fixed_words

-- lists of words that the test takes for the same are the same
words_same : (xs ys : List ℕ) → same_words xs ys ≡ true → xs ≡ ys
words_same [] [] h = refl
words_same [] (y ∷ ys) h = absurd (false≢true h)
words_same (x ∷ xs) [] h = absurd (false≢true h)
words_same (x ∷ xs) (y ∷ ys) h =
    let e = eqb-true x y (and_left (eqb x y) (same_words xs ys) h) in
    let r = words_same xs ys (and_right (eqb x y) (same_words xs ys) h) in
    cc

-- the test of a pool gives the facts, and back
pool_fine : (sh : Shape) (g : Gauge) → pool_in_range sh g ≡ true → PoolFine sh g
pool_fine sh g h =
    let a = ltb g.spot.at sh.words in
    let t = leb g.spot.turn 31 in
    let s = and_right (leb g.count sh.size) (a && t) h in
    record { count = leb-true _ _ (and_left (leb g.count sh.size) (a && t) h); placed = record { at = ltb-true _ _ (and_left a t s); turn = leb-true _ _ (and_right a t s) } }

pool_tests : (sh : Shape) (g : Gauge) → PoolFine sh g → pool_in_range sh g ≡ true
pool_tests sh g f =
    let a = ltb g.spot.at sh.words in
    let t = leb g.spot.turn 31 in
    both (leb g.count sh.size) (a && t) (le-leb _ _ f.count) (both a t (lt-ltb _ _ f.placed.at) (le-leb _ _ f.placed.turn))

-- so does a ledger's
pub ledger_fine : (l : Ledger) → ledger_in_range l ≡ true → LedgerFine l
unfolding ledger_in_range
ledger_fine l h =
    let i = pool_in_range input_shape l.input in
    let b = pool_in_range blocking_shape l.blocking in
    let t = leb l.spill.tally 63 in
    let r = and_right i (b && t) h in
    record { input = pool_fine input_shape l.input (and_left i (b && t) h); blocking = pool_fine blocking_shape l.blocking (and_left b t r); tally = leb-true _ _ (and_right b t r) }

ledger_tests : (l : Ledger) → LedgerFine l → ledger_in_range l ≡ true
unfolding ledger_in_range
ledger_tests l f =
    let b = pool_in_range blocking_shape l.blocking in
    let t = leb l.spill.tally 63 in
    both (pool_in_range input_shape l.input) (b && t) (pool_tests input_shape l.input f.input) (both b t (pool_tests blocking_shape l.blocking f.blocking) (le-leb _ _ f.tally))

-- and the whole test
pub fine : (v : View) → in_range v ≡ true → Fine v
unfolding in_range others_in_range
fine v h =
    let l = ledger_in_range v.ledger in
    let t = timers_in_range v.timers in
    let w = same_words v.fixed fixed_words in
    let q = and_right l (t && w) h in
    record { ledger = ledger_fine v.ledger (and_left l (t && w) h); timers = and_left t w q; fixed = words_same v.fixed fixed_words (and_right t w q) }

pub fine_in_range : (v : View) → Fine v → in_range v ≡ true
unfolding in_range others_in_range
fine_in_range v f =
    let t = timers_in_range v.timers in
    let w = same_words v.fixed fixed_words in
    let same : w ≡ true = rw f.fixed refl in
    both (ledger_in_range v.ledger) (t && w) (ledger_tests v.ledger f.ledger) (both t w f.timers same)

-- ---- places
-- one byte, whatever the place was
step_placed : (sh : Shape) (s : Spot) → 0 < sh.words → Placed sh (stepped sh s)
step_placed sh s h = record { at = mod-lt _ h; turn = omega arith }

-- n bytes
pub moved_placed : (sh : Shape) (n : ℕ) (s : Spot) → 0 < sh.words → Placed sh s → Placed sh (moved sh n s)
unfolding moved
moved_placed sh zero s h f = f
moved_placed sh (suc n) s h f = moved_placed sh n (stepped sh s) h (step_placed sh s h)

-- n extraction blocks
pub blocks_placed : (sh : Shape) (n : ℕ) (s : Spot) → 0 < sh.words → Placed sh s → Placed sh (moved_blocks sh n s)
unfolding moved_blocks
blocks_placed sh zero s h f = f
blocks_placed sh (suc n) s h f = blocks_placed sh n (moved sh 20 s) h (moved_placed sh 20 s h f)

-- so many bytes taken
taken_placed : (sh : Shape) (k : ℕ) (s : Spot) → 0 < sh.words → Placed sh s → Placed sh (extracted_from sh k s)
unfolding extracted_from
taken_placed sh k s h f = blocks_placed sh (blocks_of k) s h f

-- ---- differences
-- a number of 32 bits read as signed
signed-within : (x : ℕ) → x < 2 ^ 32 → first_in_range (signed x) ≡ true
unfolding signed pick
signed-within x h = go (ltb x (2 ^ 31)) refl
  where
    go : (t : Bool) → ltb x (2 ^ 31) ≡ t → first_in_range (pick t (pos x) (sub_ℕ x (2 ^ 32))) ≡ true
    go true e = le-leb x (2 ^ 31 - 1) (omega (arith, ltb-true x (2 ^ 31) e))
    go false e = rw (lt-ltb x (2 ^ 32) h) (lt-ltb (2 ^ 32 - suc x) (2 ^ 31) (omega (arith, ltb-false x (2 ^ 31) e)))

-- every difference of clocks is in range
pub diff_within : (now clock : ℕ) → first_in_range (clock_diff now clock) ≡ true
diff_within now clock = signed-within ((now + 2 ^ 32 - clock) % 2 ^ 32) (omega arith)

-- a difference of two numbers of which neither is above m
sub_within : (a b m : ℕ) → a ≤ m → b ≤ m → within m m (sub_ℕ a b) ≡ true
sub_within a b m h k = go (ltb a b) refl
  where
    go : (t : Bool) → ltb a b ≡ t → within m m (sub_ℕ a b) ≡ true
    go true e = rw e (lt-ltb (b - suc a) m (omega (arith, ltb-true a b e)))
    go false e = rw e (le-leb (a - b) m (omega (arith, ltb-false a b e)))

-- a difference of two first differences is a second difference in range
pub second_within : (x y : ℤ) → first_in_range x ≡ true → first_in_range y ≡ true → second_in_range (x -ℤ y) ≡ true
second_within (pos a) (pos zero) h k = le-leb (a + 0) (2 ^ 32 - 1) (omega (arith, leb-true a (2 ^ 31 - 1) h))
second_within (pos a) (pos (suc b)) h k =
    sub_within a (suc b) (2 ^ 32 - 1) (omega (arith, leb-true a (2 ^ 31 - 1) h)) (omega (arith, leb-true (suc b) (2 ^ 31 - 1) k))
second_within (pos a) (negsuc b) h k = le-leb (a + suc b) (2 ^ 32 - 1) (omega (arith, leb-true a (2 ^ 31 - 1) h, ltb-true b (2 ^ 31) k))
second_within (negsuc a) (pos zero) h k = sub_within 0 (suc a) (2 ^ 32 - 1) (omega arith) (omega (arith, ltb-true a (2 ^ 31) h))
second_within (negsuc a) (pos (suc b)) h k = lt-ltb (suc (a + b)) (2 ^ 32 - 1) (omega (arith, ltb-true a (2 ^ 31) h, leb-true (suc b) (2 ^ 31 - 1) k))
second_within (negsuc a) (negsuc b) h k = sub_within (suc b) (suc a) (2 ^ 32 - 1) (omega (arith, ltb-true b (2 ^ 31) k)) (omega (arith, ltb-true a (2 ^ 31) h))

-- ---- lists of which every number passes a test
-- the one at a place, or the one that stands for none
pub every_at : {A : Type 0} (t : A → Bool) (xs : List A) (i : ℕ) (d : A) → every t xs ≡ true → t d ≡ true → t (get_or xs i d) ≡ true
every_at t [] i d h k = k
every_at t (x ∷ xs) zero d h k = and_left (t x) (every t xs) h
every_at t (x ∷ xs) (suc i) d h k = every_at t xs i d (and_right (t x) (every t xs) h) k

-- after one was put at a place
pub every_set : {A : Type 0} (t : A → Bool) (xs : List A) (i : ℕ) (y : A) → every t xs ≡ true → t y ≡ true → every t (set xs i y) ≡ true
every_set t [] i y h k = refl
every_set t (x ∷ xs) zero y h k = both (t y) (every t xs) k (and_right (t x) (every t xs) h)
every_set t (x ∷ xs) (suc i) y h k =
    both (t x) (every t (set xs i y)) (and_left (t x) (every t xs) h) (every_set t xs i y (and_right (t x) (every t xs) h) k)

-- ---- timers
-- after an event
pub next_in_range : (now : ℕ) (t : Timer) → timer_in_range t ≡ true → timer_in_range (next_timer now t) ≡ true
next_in_range now t h =
    let d = clock_diff now t.clock in
    let w = diff_within now t.clock in
    let f = first_in_range t.d1 in
    let s = second_in_range t.d2 in
    let g = second_within d t.d1 w (and_left f s (and_left (f && s) (came_in_range t.came) h)) in
    both (first_in_range d && second_in_range (d -ℤ t.d1)) (came_in_range (came_after t.came))
    (both (first_in_range d) (second_in_range (d -ℤ t.d1)) w g) (le-leb (came_after t.came) events_before (omega arith))

-- a device's
timer_in_range_lem : (ts : Timers) (device : ℕ) → timers_in_range ts ≡ true → timer_in_range (timer_of ts device) ≡ true
timer_in_range_lem ts device h =
    let d = every first_in_range ts.firsts in
    let e = every second_in_range ts.seconds in
    let n = every came_in_range ts.came in
    let u = timer_of ts device in
    let g = and_left (d && e) n h in
    both (first_in_range u.d1 && second_in_range u.d2) (came_in_range u.came)
    (both (first_in_range u.d1) (second_in_range u.d2) (every_at first_in_range ts.firsts device (pos 0) (and_left d e g) refl) (every_at second_in_range ts.seconds device (pos 0) (and_right d e g) refl))
    (every_at came_in_range ts.came device 0 (and_right (d && e) n h) refl)

-- all, after one was kept
kept_in_range : (ts : Timers) (device : ℕ) (t : Timer) → timers_in_range ts ≡ true → timer_in_range t ≡ true → timers_in_range (kept device t ts) ≡ true
kept_in_range ts device t h k =
    let d = every first_in_range ts.firsts in
    let e = every second_in_range ts.seconds in
    let n = every came_in_range ts.came in
    let a = first_in_range t.d1 in
    let b = second_in_range t.d2 in
    let m = came_in_range t.came in
    let g = and_left (d && e) n h in
    let j = and_left (a && b) m k in
    let firsts = every first_in_range (set ts.firsts device t.d1) in
    let seconds = every second_in_range (set ts.seconds device t.d2) in
    both (firsts && seconds) (every came_in_range (set ts.came device t.came))
    (both firsts seconds (every_set first_in_range ts.firsts device t.d1 (and_left d e g) (and_left a b j)) (every_set second_in_range ts.seconds device t.d2 (and_right d e g) (and_right a b j)))
    (every_set came_in_range ts.came device t.came (and_right (d && e) n h) (and_right (a && b) m k))

-- ---- plans
-- another count within its size
counted : {sh : Shape} {g : Gauge} (c : ℕ) → c ≤ sh.size → PoolFine sh g → PoolFine sh (counting c g)
counted c h f = record { count = h; placed = f.placed }

-- a plan that leaves the ledger in range, with a timer in range
record PlanFine (p : Plan) : Type 0 where
  ledger : LedgerFine p.ledger
  timer : timer_in_range p.timer ≡ true

-- a plan that keeps no timer and leaves such a ledger
plain_fine : (number : ℕ) (l : Ledger) (added : ℕ) (stirs feeds : Bool) (r t d s : ℕ) → LedgerFine l → PlanFine (plan_of number l added stirs feeds r t d s)
plain_fine number l added stirs feeds r t d s f = record { ledger = f; timer = refl }

-- nothing done
idle-fine : (n : ℕ) (l : Ledger) → LedgerFine l → PlanFine (idle n l)
idle-fine n l f = plain_fine n l _ false false 0 0 0 0 f

-- a credit, with a first seeding or without
feed-fine : (now : ℕ) (stirs : Bool) (n : ℕ) (l : Ledger) → LedgerFine l → PlanFine (feed now stirs n l)
unfolding feed
feed-fine now stirs n l f =
    record {
      ledger = record { input = counted _ (omega (arith, credited-room input_size n l.input.count (omega arith) f.input.count)) f.input; blocking = f.blocking; tally = f.tally };
      timer = refl;
    }

-- a device event, whose timer is kept
event-fine : (device now value : ℕ) (t : Timer) (l : Ledger) → timer_in_range t ≡ true → LedgerFine l → PlanFine (plan_event device now value t l)
unfolding plan_event
event-fine device now value t l h f =
    let g = feed-fine now false _ (valued device value l) (record { input = f.input; blocking = f.blocking; tally = f.tally }) in
    pick_both PlanFine _ (idle-fine 4 l f) (pick_both PlanFine _ (idle-fine 7 l f) (record { ledger = g.ledger; timer = next_in_range now t h }))

-- an interrupt that only stirs leaves a tally of at most 63
stay_tally : (b : Bool) (n : ℕ) → (ltb (n + 1) 64 && b) ≡ true → n + 1 ≤ 63
stay_tally b n h = omega (arith, ltb-true (n + 1) 64 (and_left (ltb (n + 1) 64) b h))

-- an interrupt
interrupt-fine : (now : ℕ) (l : Ledger) → LedgerFine l → PlanFine (plan_interrupt now l)
unfolding plan_interrupt
interrupt-fine now l f =
    pick_by PlanFine (stays now l)
    (λ e. plain_fine 0 (tallied l) 0 true false 0 0 0 0 (record { input = f.input; blocking = f.blocking; tally = stay_tally _ l.spill.tally e }))
    (λ e. feed-fine now true 1 (spilled now l) (record { input = f.input; blocking = f.blocking; tally = omega arith }))

-- a generator read
read-fine : (now len : ℕ) (l : Ledger) → LedgerFine l → PlanFine (plan_read now len l)
unfolding plan_read
read-fine now len l f =
    pick_both PlanFine _ (idle-fine 3 l f) (pick_both PlanFine _ (idle-fine 0 l f) (pick_both PlanFine _ (idle-fine 2 l f)
    (record { ledger = record { input = counted _ (omega (arith, f.input.count)) f.input; blocking = f.blocking; tally = f.tally }; timer = refl })))

-- a blocking read
blocking_fine : (n : ℕ) (l : Ledger) → LedgerFine l → PlanFine (plan_blocking_read n l)
unfolding plan_blocking_read
blocking_fine n l f =
    let r = credited-room blocking_size (8 * transferred n l) l.blocking.count (omega arith) f.blocking.count in
    pick_both PlanFine _ (idle-fine 3 l f) (pick_both PlanFine _ (idle-fine 0 l f) (pick_both PlanFine _ (idle-fine 1 l f)
    (record { ledger = record { input = counted _ (omega (arith, f.input.count)) f.input; blocking = counted _ (omega (arith, r)) f.blocking; tally = f.tally }; timer = refl })))

-- each call
plan_fine : (l : Ledger) (t : Timer) (c : PublicCall) → timer_in_range t ≡ true → LedgerFine l → PlanFine (plan_call l t c)
unfolding plan_call plan_write plan_seed
plan_fine l t (event device now value) h f = event-fine device now value t l h f
plan_fine l t (interrupt now number) h f = interrupt-fine now l f
plan_fine l t (write len) h f = pick_both PlanFine _ (idle-fine 3 l f) (plain_fine 0 l 0 false true 0 0 0 0 f)
plan_fine l t (seed now len credit) h f =
    pick_both PlanFine _ (idle-fine 3 l f) (pick_both PlanFine _ (idle-fine 5 l f) (feed-fine now false credit l f))
plan_fine l t (read now len) h f = read-fine now len l f
plan_fine l t (blocking_read len) h f = blocking_fine len l f

-- in range or not
decide-fine : (v : View) (c : PublicCall) → Fine v → PlanFine (plan_at v c)
unfolding decide
decide-fine v c f =
    pick_both PlanFine _
    (plan_fine v.ledger _ c (timer_in_range_lem v.timers (device_of c) f.timers) f.ledger)
    (idle-fine 17 v.ledger f.ledger)

-- ---- a call leaves a fine view fine
pub step-fine : (v : View) (c : PublicCall) → Fine v → Fine (step_view v c).view
unfolding step_view planned input_moved blocking_moved
step-fine v c f =
    let p = plan_at v c in
    let g = decide-fine v c f in
    let n = pick p.feeds (brings c) 0 in
    let i = moved_placed input_shape n v.ledger.input.spot (omega arith) f.ledger.input.placed in
    let b = moved_placed blocking_shape p.transfer v.ledger.blocking.spot (omega arith) f.ledger.blocking.placed in
    record {
      ledger =
          record {
            input = record { count = g.ledger.input.count; placed = taken_placed input_shape p.transfer _ (omega arith) (taken_placed input_shape p.reseed _ (omega arith) i) };
            blocking = record { count = g.ledger.blocking.count; placed = taken_placed blocking_shape p.deliver _ (omega arith) b };
            tally = g.ledger.tally;
          };
      timers = pick_both (λ (ts : Timers). timers_in_range ts ≡ true) p.keeps (kept_in_range v.timers (device_of c) p.timer f.timers g.timer) f.timers;
      fixed = f.fixed;
    }

-- the fresh view is fine
pub fresh-fine : Fine fresh_view
unfolding in_range others_in_range ledger_in_range
fresh-fine = fine fresh_view refl

-- ---- the test that a plan makes is the whole test
-- where the rest of the record is in range, so is each of its timers
agree : (r l t : Bool) → (r ≡ true → t ≡ true) → (r && (l && t)) ≡ (l && r)
agree true true t h = h refl
agree true false t h = refl
agree false true t h = refl
agree false false t h = refl

timer_fine : (v : View) (device : ℕ) → others_in_range v.timers v.fixed ≡ true → timer_in_range (timer_of v.timers device) ≡ true
unfolding others_in_range
timer_fine v device h = timer_in_range_lem v.timers device (and_left (timers_in_range v.timers) (same_words v.fixed fixed_words) h)

pub seen_range : (v : View) (device : ℕ)
    → (others_in_range v.timers v.fixed && (ledger_in_range v.ledger && timer_in_range (timer_of v.timers device))) ≡ in_range v
unfolding in_range
seen_range v device =
    agree (others_in_range v.timers v.fixed) (ledger_in_range v.ledger) (timer_in_range (timer_of v.timers device)) (timer_fine v device)

pub plan_at_is : (v : View) (c : PublicCall)
    → plan_at v c ≡ pick (in_range v) (plan_call v.ledger (timer_of v.timers (device_of c)) c) (idle 17 v.ledger)
unfolding decide
plan_at_is v c = rw (seen_range v (device_of c))

-- ---- no call is answered 17
-- a call's own numbers are 0 to 7
record Low (p : Plan) : Type 0 where
  low : p.number ≤ 7

-- so it is for each call
plan_low : (l : Ledger) (t : Timer) (c : PublicCall) → Low (plan_call l t c)
unfolding plan_call plan_event plan_interrupt plan_write plan_seed plan_read plan_blocking_read feed
plan_low l t (event device now value) = pick_both Low _ (record { low = omega arith }) (pick_both Low _ (record { low = omega arith }) (record { low = omega arith }))
plan_low l t (interrupt now number) = pick_both Low _ (record { low = omega arith }) (record { low = omega arith })
plan_low l t (write len) = pick_both Low _ (record { low = omega arith }) (record { low = omega arith })
plan_low l t (seed now len credit) = pick_both Low _ (record { low = omega arith }) (pick_both Low _ (record { low = omega arith }) (record { low = omega arith }))
plan_low l t (read now len) =
    pick_both Low _ (record { low = omega arith }) (pick_both Low _ (record { low = omega arith }) (pick_both Low _ (record { low = omega arith }) (record { low = omega arith })))
plan_low l t (blocking_read len) =
    pick_both Low _ (record { low = omega arith }) (pick_both Low _ (record { low = omega arith }) (pick_both Low _ (record { low = omega arith }) (record { low = omega arith })))

-- in range, the answer is at most 7
pub fine_low : (v : View) (c : PublicCall) → Fine v → (step_view v c).answer.number ≤ 7
unfolding step_view planned pick
fine_low v c f = rw (plan_at_is v c, fine_in_range v f) (plan_low v.ledger (timer_of v.timers (device_of c)) c).low

-- out of range, every call is answered 17
pub out_of_range : (v : View) (c : PublicCall) → in_range v ≡ false → (step_view v c).answer.number ≡ 17
unfolding step_view planned pick
out_of_range v c h = rw (plan_at_is v c, h) refl

-- whichever device's timer is out of range, and whatever is called
pub any_timer : (v : View) (device : ℕ) (c : PublicCall) → timer_in_range (timer_of v.timers device) ≡ false → (step_view v c).answer.number ≡ 17
unfolding in_range
any_timer v device c h = out_of_range v c (go (in_range v) refl)
  where
    go : (b : Bool) → in_range v ≡ b → in_range v ≡ false
    go false e = e
    go true e =
        absurd (false≢true (sym h ∙ timer_fine v device (and_right (ledger_in_range v.ledger) (others_in_range v.timers v.fixed) e)))

-- the view after a list of calls
unfoldable pub view_after : View → List PublicCall → View
view_after v [] = v
view_after v (c ∷ cs) = view_after (step_view v c).view cs

-- it is fine where the first view was
pub after_fine : (v : View) (cs : List PublicCall) → Fine v → Fine (view_after v cs)
unfolding view_after
after_fine v [] f = f
after_fine v (c ∷ cs) f = after_fine (step_view v c).view cs (step-fine v c f)

-- after any calls on a fresh keeper, no call is answered 17
pub never_17 : (cs : List PublicCall) (c : PublicCall) → (step_view (view_after fresh_view cs) c).answer.number ≡ 17 → ⊥
never_17 cs c e = omega (arith, fine_low (view_after fresh_view cs) c (after_fine fresh_view cs fresh-fine))
