-- Plans that answer 0, call by call: the record is in range, and which parts of the plan do something.
use mathlib.Core.Path.{◌≡◌, refl, sym, ap, ap₂, ◌∙◌}
use mathlib.Core.Bool.{Bool, true, false, ◌&&◌, false≢true}
use Prim.Native.Nat.{ℕ, ◌≤◌, ◌<◌}
use native.Mathlib.Omega.{arith}
use lib.Dec.{ltb, leb, eqb}
use borrow.Author.Tests.{ltb-false, leb-false, eqb-true}
use Rattle.ledger.specs.Choice.{pick}
use Rattle.ledger.specs.Sizes.{devices, input_words, blocking_words, longest}
use Rattle.ledger.specs.Timers.{fresh_timer, timer_of}
use Rattle.ledger.specs.Range.{View, ledger_in_range, timer_in_range, others_in_range, in_range}
use Rattle.ledger.specs.PublicCalls.{PublicCall, event, interrupt, write, seed, read, blocking_read, device_of}
use Rattle.ledger.specs.Refusals.{number_of}
use Rattle.ledger.specs.declared.refusals.Refusal.{Refusal}
use Rattle.ledger.specs.declared.refusals.Refusal.TheVariants.{WouldBlock, Unseeded, TooLong, NoSuchDevice, CreditTooHigh, StartNot48, Repeated, MarkWrong, VersionWrong, CutShort, UnknownKind, JournalTooLarge, NoSuchClass, AllRepeated, IndexDiffers, OutOfRange, NoSuchRecord, RoomTooShort}
use Rattle.ledger.specs.Plans.{idle, feed, transferred, refilled, plan_event, plan_interrupt, plan_write, plan_seed, plan_read, plan_blocking_read, plan_call, decide}
use Rattle.ledger.specs.Machine.{plan_at}
use Rattle.ledger.specs.declared.Ledger.{Ledger}
use Rattle.ledger.specs.declared.Plan.{Plan}
use Rattle.ledger.specs.declared.Timer.{Timer}
use Rattle.ledger.proofs.Picks.{pick_both, pick_by, and_left, and_right}
use Rattle.ledger.proofs.Crediting.{taken_wanted}
use Rattle.ledger.proofs.InRange.{LedgerFine, ledger_fine, seen_range}
use Rattle.mixer.specs.Sizes.{InPool}
use Rattle.mixer.proofs.Mixes.{in_input, in_blocking}

-- ---- a plan that answers 0 is one of a record in range
pub record Pools (l : Ledger) : Type 0 where
  pub input : InPool input_words l.input.spot
  pub blocking : InPool blocking_words l.blocking.spot

pools : (l : Ledger) → LedgerFine l → Pools l
pools l f =
    let i = f.input.placed in
    let b = f.blocking.placed in
    record { input = in_input l.input.spot i.at i.turn; blocking = in_blocking l.blocking.spot b.at b.turn }

pub in_pools : (others : Bool) (l : Ledger) (t : Timer) (c : PublicCall) (p : Plan) → p ≡ decide others l t c → p.number ≡ 0 → Pools l
unfolding decide
in_pools others l t c p e z =
    let P : Plan → Type 0 = λ (q : Plan). q.number ≡ 0 → Pools l in
    let i = ledger_in_range l in
    let j = timer_in_range t in
    pick_by P (others && (i && j)) (λ h n. pools l (ledger_fine l (and_left i j (and_right others (i && j) h)))) (λ h n. absurd (omega (arith, n))) (ap (λ (q : Plan). q.number) (sym e) ∙ z)

-- a refusal's number is not 0
pub refused_other : (why : Refusal) → number_of why ≡ 0 → ⊥
refused_other WouldBlock e = absurd (omega (arith, e))
refused_other Unseeded e = absurd (omega (arith, e))
refused_other TooLong e = absurd (omega (arith, e))
refused_other NoSuchDevice e = absurd (omega (arith, e))
refused_other CreditTooHigh e = absurd (omega (arith, e))
refused_other StartNot48 e = absurd (omega (arith, e))
refused_other Repeated e = absurd (omega (arith, e))
refused_other MarkWrong e = absurd (omega (arith, e))
refused_other VersionWrong e = absurd (omega (arith, e))
refused_other CutShort e = absurd (omega (arith, e))
refused_other UnknownKind e = absurd (omega (arith, e))
refused_other JournalTooLarge e = absurd (omega (arith, e))
refused_other NoSuchClass e = absurd (omega (arith, e))
refused_other AllRepeated e = absurd (omega (arith, e))
refused_other IndexDiffers e = absurd (omega (arith, e))
refused_other OutOfRange e = absurd (omega (arith, e))
refused_other NoSuchRecord e = absurd (omega (arith, e))
refused_other RoomTooShort e = absurd (omega (arith, e))

-- ---- what is decided with any timer in range is what the plan at a view is, for a call that has no device
agree : (r l t : Bool) → (r && (l && t)) ≡ (l && r) → (r && (l && true)) ≡ (r && (l && t))
agree true true t h = sym h
agree true false t h = refl
agree false l t h = refl

pub any_timer : (v : View) (c : PublicCall)
    → plan_call v.ledger fresh_timer c ≡ plan_call v.ledger (timer_of v.timers (device_of c)) c
    → decide (others_in_range v.timers v.fixed) v.ledger fresh_timer c ≡ plan_at v c
unfolding decide in_range
any_timer v c e =
    ap₂ (λ (b : Bool) (p : Plan). pick b p (idle 17 v.ledger))
    (agree (others_in_range v.timers v.fixed) (ledger_in_range v.ledger) _ (seen_range v (device_of c)))
    e

-- ---- the shapes
-- bytes go into the input pool, and some of it perhaps onto the key; no more
pub record Feeds (p : Plan) : Type 0 where
  pub transfer : p.transfer ≡ 0
  pub deliver : p.deliver ≡ 0
  pub stream : p.stream ≡ 0

-- a device event that is accepted
pub record EventPlan (device : ℕ) (p : Plan) : Type 0 where
  pub device_small : device < devices
  pub keeps : p.keeps ≡ true
  pub stirs : p.stirs ≡ false
  pub feeds : p.feeds ≡ true
  pub rest_still : Feeds p

-- an interrupt
pub record InterruptPlan (p : Plan) : Type 0 where
  pub keeps : p.keeps ≡ false
  pub stirs : p.stirs ≡ true
  pub unfed : p.feeds ≡ false → p.reseed ≡ 0
  pub rest_still : Feeds p

-- a write or a seed
pub record FedPlan (p : Plan) : Type 0 where
  pub keeps : p.keeps ≡ false
  pub stirs : p.stirs ≡ false
  pub feeds : p.feeds ≡ true
  pub rest_still : Feeds p

-- a generator read of len bytes
pub record ReadPlan (len : ℕ) (p : Plan) : Type 0 where
  pub keeps : p.keeps ≡ false
  pub stirs : p.stirs ≡ false
  pub feeds : p.feeds ≡ false
  pub transfer : p.transfer ≡ 0
  pub deliver : p.deliver ≡ 0
  pub whole : p.stream ≡ len
  pub short : len ≤ longest

-- a blocking read of len bytes
pub record BlockingPlan (len : ℕ) (p : Plan) : Type 0 where
  pub keeps : p.keeps ≡ false
  pub stirs : p.stirs ≡ false
  pub feeds : p.feeds ≡ false
  pub reseed : p.reseed ≡ 0
  pub stream : p.stream ≡ 0
  pub fits : p.deliver ≤ len

-- where the answer is 0, the plan is so
abbrev Where0 : (Plan → Type 0) → Plan → Type 0
Where0 P p = p.number ≡ 0 → P p

-- a refusal is not answered 0
other : (P : Plan → Type 0) (n : ℕ) (l : Ledger) → 1 ≤ n → Where0 P (idle n l)
other P n l h e = absurd (omega (arith, h, e))

-- what holds of a plan so decided holds of one that equals it
pub so : (P : Plan → Type 0) {p q : Plan} → p ≡ q → Where0 P q → p.number ≡ 0 → P p
so P e h = rw e h

in_or_out : (P : Plan → Type 0) (others : Bool) (l : Ledger) (t : Timer) (c : PublicCall) → Where0 P (plan_call l t c) → Where0 P (decide others l t c)
unfolding decide
in_or_out P others l t c h = pick_both (Where0 P) _ h (other P 17 l (omega arith))

pub event_plan : (others : Bool) (l : Ledger) (t : Timer) (device now value : ℕ) → Where0 (EventPlan device) (decide others l t (event device now value))
unfolding plan_call plan_event feed
event_plan others l t device now value =
    let P = EventPlan device in
    in_or_out P others l t (event device now value)
    (pick_by (Where0 P) (leb devices device) (λ h. other P 4 l (omega arith)) (λ h. let d = leb-false devices device h in
    pick_both (Where0 P) _ (other P 7 l (omega arith))
    (λ e. record { device_small = omega arith; keeps = refl; stirs = refl; feeds = refl; rest_still = record { transfer = refl; deliver = refl; stream = refl } })))

pub interrupt_plan : (others : Bool) (l : Ledger) (t : Timer) (now number : ℕ) → Where0 InterruptPlan (decide others l t (interrupt now number))
unfolding plan_call plan_interrupt feed
interrupt_plan others l t now number =
    let P = InterruptPlan in
    in_or_out P others l t (interrupt now number)
    (pick_both (Where0 P) _
    (λ e. record { keeps = refl; stirs = refl; unfed = λ h. refl; rest_still = record { transfer = refl; deliver = refl; stream = refl } })
    (λ e. record { keeps = refl; stirs = refl; unfed = λ h. absurd (false≢true (sym h)); rest_still = record { transfer = refl; deliver = refl; stream = refl } }))

-- a write reseeds nothing
pub record WritePlan (p : Plan) : Type 0 where
  pub fed : FedPlan p
  pub reseed : p.reseed ≡ 0

pub write_plan : (others : Bool) (l : Ledger) (t : Timer) (len : ℕ) → Where0 WritePlan (decide others l t (write len))
unfolding plan_call plan_write
write_plan others l t len =
    let P = WritePlan in
    in_or_out P others l t (write len)
    (pick_both (Where0 P) _ (other P 3 l (omega arith))
    (λ e. record { fed = record { keeps = refl; stirs = refl; feeds = refl; rest_still = record { transfer = refl; deliver = refl; stream = refl } }; reseed = refl }))

pub seed_plan : (others : Bool) (l : Ledger) (t : Timer) (now len credit : ℕ) → Where0 FedPlan (decide others l t (seed now len credit))
unfolding plan_call plan_seed feed
seed_plan others l t now len credit =
    let P = FedPlan in
    in_or_out P others l t (seed now len credit)
    (pick_both (Where0 P) _ (other P 3 l (omega arith))
    (pick_both (Where0 P) _ (other P 5 l (omega arith))
    (λ e. record { keeps = refl; stirs = refl; feeds = refl; rest_still = record { transfer = refl; deliver = refl; stream = refl } })))

pub read_plan_lem : (others : Bool) (l : Ledger) (t : Timer) (now len : ℕ) → Where0 (ReadPlan len) (decide others l t (read now len))
unfolding plan_call plan_read
read_plan_lem others l t now len =
    let P = ReadPlan len in
    in_or_out P others l t (read now len)
    (pick_by (Where0 P) (ltb longest len) (λ h. other P 3 l (omega arith)) (λ h. let s = ltb-false longest len h in
    pick_by (Where0 P) (eqb len 0)
    (λ z e. record { keeps = refl; stirs = refl; feeds = refl; transfer = refl; deliver = refl; whole = sym (eqb-true len 0 z); short = s })
    (λ z. pick_both (Where0 P) _ (other P 2 l (omega arith))
    (λ e. record { keeps = refl; stirs = refl; feeds = refl; transfer = refl; deliver = refl; whole = refl; short = s }))))

pub blocking_plan : (others : Bool) (l : Ledger) (t : Timer) (len : ℕ) → Where0 (BlockingPlan len) (decide others l t (blocking_read len))
unfolding plan_call plan_blocking_read
blocking_plan others l t len =
    let P = BlockingPlan len in
    let w = taken_wanted len 0 (refilled (transferred len l) l).count in
    in_or_out P others l t (blocking_read len)
    (pick_both (Where0 P) _ (other P 3 l (omega arith))
    (pick_both (Where0 P) _
    (λ e. record { keeps = refl; stirs = refl; feeds = refl; reseed = refl; stream = refl; fits = omega arith })
    (pick_both (Where0 P) _ (other P 1 l (omega arith))
    (λ e. record { keeps = refl; stirs = refl; feeds = refl; reseed = refl; stream = refl; fits = w }))))
