-- The two strokes of each call, as the code makes them, leave what the paper tells. Each fact here takes what the called functions
-- promise and gives the call's contract.
use mathlib.Core.Path.{◌≡◌, refl, sym, ap, ap₂, subst, ◌∙◌}
use mathlib.Core.Bool.{Bool, true, false}
use mathlib.Core.List.{List, [], ◌++◌, append-nil}
use Prim.Native.Nat.{ℕ}
use native.Mathlib.Omega.{arith}
use lib.ListN.{length, take, drop, drop_of_length-le}
use Rattle.words.specs.Bytes.{words_bytes, bytes_words}
use Rattle.ledger.specs.Choice.{pick}
use Rattle.ledger.specs.Shapes.{Shape, input_shape, blocking_shape}
use Rattle.ledger.specs.Marks.{placing, with_input, with_blocking, with_spots}
use Rattle.ledger.specs.Range.{others_in_range}
use Rattle.ledger.specs.PublicCalls.{PublicCall, event, interrupt, write, seed, read, blocking_read}
use Rattle.ledger.specs.Sizes.{input_words, blocking_words}
use Rattle.ledger.specs.Timers.{Timers, fresh_timer, timer_of, kept}
use Rattle.ledger.specs.Plans.{feed, plan_event, plan_interrupt, plan_write, plan_seed, plan_read, plan_blocking_read, plan_call, decide, answer_of, bare}
use Rattle.ledger.specs.Machine.{timers_after, plan_at}
use Rattle.ledger.specs.declared.Ledger.{Ledger}
use Rattle.ledger.specs.declared.Plan.{Plan}
use Rattle.ledger.specs.declared.Timer.{Timer}
use Rattle.ledger.specs.declared.Spot.{Spot}
use Rattle.ledger.proofs.Picks.{pick_both}
use Rattle.pool.specs.Mixing.{Pool, mix}
use Rattle.pool.specs.Extracting.{Extract, extract}
use Rattle.pool.proofs.Extracted.{laws}
use Rattle.mixer.specs.Sizes.{shape_of}
use Rattle.keeper.specs.FastPool.{stirred}
use Rattle.keeper.specs.Generator.{xor_at, onto_key, Stream, generated}
use Rattle.keeper.specs.Record.{timers_in, input_pool, blocking_pool, keeper_of, view, Outcome, refused, room_after}
use Rattle.keeper.specs.Calls.{Call, device_event, interrupted, written, seeded_with, generator_read, blocking_read_of, public, event_bytes}
use Rattle.keeper.specs.Narrative.{told}
use Rattle.keeper.specs.Obey.{fast_after, for_reseed, for_transfer, for_delivery, from_generator, obey, step}
use Rattle.keeper.specs.declared.Keeper.{Keeper}
use Rattle.ledger.specs.declared.Answer.{Answer}
use Rattle.keeper.proofs.Counter.{key_length, generated-length}
use Rattle.keeper.proofs.Carried.{answer_is, none_taken, none_made, streamed_by, rests_blocking, rests_generator, still-generator, untouched}
use Rattle.keeper.proofs.Same.{same}
use Rattle.keeper.proofs.Refusals.{demand_1}
use Rattle.steps.specs.Promise.{left, over, leaves}
use Rattle.steps.proofs.Accepted.{any_timer, Feeds, EventPlan, InterruptPlan, FedPlan, WritePlan, ReadPlan, BlockingPlan}

-- ---- a pool that is lent: its words and its spot are the record's
pub lent_as : (xs ws : List ℕ) (u s t : Spot) → xs ≡ ws → u ≡ s → s ≡ t → ◌≡◌ {A = Pool} (record { words = xs; spot = u }) (record { words = ws; spot = t })
lent_as xs ws u s t e f h = λ i. record { words = e i; spot = (f ∙ h) i }

-- ---- the plan
-- a plan is the one at a record. Which record is then told by the type
pub record Planned (k : Keeper) (c : PublicCall) (p : Plan) : Type 0 where
  pub is : p ≡ plan_at (view k) c

-- the test of what the ledger does not hold, as the code makes it
abbrev pub Others : Keeper → Bool → Type 0
Others k others = others ≡ others_in_range (timers_in k) (take 4 k.generator)

-- an event is decided with its device's timer
pub event_decided : (k : Keeper) (device now value : ℕ) (others : Bool) (t : Timer) (p : Plan)
    → Others k others → t ≡ timer_of (timers_in k) device
    → p ≡ decide others k.ledger t (event device now value) → Planned k (event device now value) p
event_decided k device now value others t p eo et ep = record { is = ep ∙ ap₂ (λ (o : Bool) (u : Timer). decide o k.ledger u (event device now value)) eo et }

-- a call that has no device is decided without a timer
abbrev pub Untimed : PublicCall → Type 0
Untimed c = (l : Ledger) (t u : Timer) → plan_call l t c ≡ plan_call l u c

pub interrupt_untimed : (now number : ℕ) → Untimed (interrupt now number)
unfolding plan_call
interrupt_untimed now number l t u = refl

pub write_untimed : (len : ℕ) → Untimed (write len)
unfolding plan_call
write_untimed len l t u = refl

pub seed_untimed : (now len credit : ℕ) → Untimed (seed now len credit)
unfolding plan_call
seed_untimed now len credit l t u = refl

pub read_untimed : (now len : ℕ) → Untimed (read now len)
unfolding plan_call
read_untimed now len l t u = refl

pub blocking_untimed : (len : ℕ) → Untimed (blocking_read len)
unfolding plan_call
blocking_untimed len l t u = refl

-- .. which is the plan at the record
pub decided : (k : Keeper) (c : PublicCall) (others : Bool) (p : Plan)
    → Untimed c → Others k others → p ≡ decide others k.ledger fresh_timer c → Planned k c p
decided k c others p e eo ep = record { is = ep ∙ ap (λ (o : Bool). decide o k.ledger fresh_timer c) eo ∙ any_timer (view k) c (e k.ledger _ _) }

-- ---- a plan's ledger has the spots that the record's has
pub record SameSpots (l : Ledger) (p : Plan) : Type 0 where
  pub input : p.ledger.input.spot ≡ l.input.spot
  pub blocking : p.ledger.blocking.spot ≡ l.blocking.spot

still_there : (l : Ledger) (t : Timer) (c : PublicCall) → SameSpots l (plan_call l t c)
unfolding plan_call plan_event plan_interrupt plan_write plan_seed plan_read plan_blocking_read feed
still_there l t (event device now value) = pick_both (SameSpots l) _ (record { input = refl; blocking = refl }) (pick_both (SameSpots l) _ (record { input = refl; blocking = refl }) (record { input = refl; blocking = refl }))
still_there l t (interrupt now number) = pick_both (SameSpots l) _ (record { input = refl; blocking = refl }) (record { input = refl; blocking = refl })
still_there l t (write len) = pick_both (SameSpots l) _ (record { input = refl; blocking = refl }) (record { input = refl; blocking = refl })
still_there l t (seed now len credit) = pick_both (SameSpots l) _ (record { input = refl; blocking = refl }) (pick_both (SameSpots l) _ (record { input = refl; blocking = refl }) (record { input = refl; blocking = refl }))
still_there l t (read now len) = pick_both (SameSpots l) _ (record { input = refl; blocking = refl }) (pick_both (SameSpots l) _ (record { input = refl; blocking = refl }) (pick_both (SameSpots l) _ (record { input = refl; blocking = refl }) (record { input = refl; blocking = refl })))
still_there l t (blocking_read len) = pick_both (SameSpots l) _ (record { input = refl; blocking = refl }) (pick_both (SameSpots l) _ (record { input = refl; blocking = refl }) (pick_both (SameSpots l) _ (record { input = refl; blocking = refl }) (record { input = refl; blocking = refl })))

pub spots : (others : Bool) (l : Ledger) (t : Timer) (c : PublicCall) (p : Plan) → p ≡ decide others l t c → SameSpots l p
unfolding decide
spots others l t c p e = subst (SameSpots l) (sym e) (pick_both (SameSpots l) _ (still_there l t c) (record { input = refl; blocking = refl }))

-- the ledger with the input pool's spot moved on
abbrev pub moved_on : Spot → Ledger → Ledger
moved_on s l = with_input (placing s l.input) l

moved_spots : (k : Keeper) (c : PublicCall) (p : Plan) → Planned k c p → (u : Spot) → moved_on u p.ledger ≡ with_spots u k.ledger.blocking.spot p.ledger
moved_spots k c p e u = ap (λ (s : Spot). with_blocking (placing s p.ledger.blocking) (moved_on u p.ledger)) (spots _ _ _ _ p e.is).blocking

-- ---- a refusal
pub refusal : (k : Keeper) (c : Call) (room : List ℕ) (p : Plan) → Planned k (public c) p → (p.number ≡ 0 → ⊥)
    → left k (bare p.number) room ≡ leaves k c room
unfolding leaves step obey
refusal k c room p e h =
    let n : (told k c).answer.number ≡ p.number = ap (λ (o : Outcome). o.answer.number) (same k c) ∙ ap (λ (q : Plan). q.number) (sym e.is) in
    sym (ap (over room) (demand_1 k c (λ z. h (sym n ∙ z))) ∙ ap (λ (m : ℕ). over room (refused m k)) n)

-- ---- what is not refused
accepted : (k : Keeper) (c : Call) (room : List ℕ) (p : Plan) → Planned k (public c) p → leaves k c room ≡ over room (obey c p k)
unfolding leaves step
accepted k c room p e = ap (over room) (same k c ∙ ap (λ (q : Plan). obey c q k) (sym e.is))

-- with the plan's answer, and over a room
over-room : (c : Call) (p : Plan) (k : Keeper) (room : List ℕ) (o : Outcome) → obey c p k ≡ o → length (from_generator c p k).bytes ≡ p.stream
    → over room (obey c p k) ≡ left o.keeper (answer_of p) (room_after room o.bytes)
over-room c p k room o e w = λ j. left (e j).keeper (answer_is c p k w j) (room_after room (e j).bytes)

-- a plan that feeds: the input pool, the key, the fast pool and a timer
fed : (c : Call) (p : Plan) (k : Keeper) (room : List ℕ) → Feeds p
    → over room (obey c p k) ≡ left (streamed_by c p k (for_reseed c p k) (record { bytes = []; generator = onto_key (for_reseed c p k).bytes k.generator; blocks = 0 })).keeper (answer_of p) room
fed c p k room f =
    let r = for_reseed c p k in
    let g = none_made p.stream (onto_key r.bytes k.generator) f.stream in
    over-room c p k room _ (rests_blocking c p k f.transfer f.deliver ∙ ap (streamed_by c p k r) g) (ap (λ (s : Stream). length s.bytes) g ∙ sym f.stream)

-- so many bytes in the room
in_front_lem : (room bs : List ℕ) (n : ℕ) → length bs ≡ n → room_after room bs ≡ bs ++ drop n room
in_front_lem room bs n e = rw e refl

-- part by part
parts : {l m : Ledger} {ts us : Timers} {i j b d f g x y : List ℕ} {a : Answer} {u v : List ℕ}
    → l ≡ m → ts ≡ us → i ≡ j → b ≡ d → f ≡ g → x ≡ y → u ≡ v
    → left (keeper_of l ts i b f x) a u ≡ left (keeper_of m us j d g y) a v
parts {a = a} el et ei eb ef eg er = λ n. left (keeper_of (el n) (et n) (ei n) (eb n) (ef n) (eg n)) a (er n)

-- a pool of 128 words has the input pool's shape, one of 32 the blocking pool's
shape_128 : shape_of input_words ≡ input_shape
unfolding shape_of pick
shape_128 = refl

shape_32 : shape_of blocking_words ≡ blocking_shape
unfolding shape_of pick
shape_32 = refl

-- bytes mixed into a pool that is lent, and what is taken from one
mixed : (v w q : Pool) (bs : List ℕ) → v ≡ w → q ≡ mix (shape_of input_words) v bs → q ≡ mix input_shape w bs
mixed v w q bs e m = m ∙ ap₂ (λ (sh : Shape) (x : Pool). mix sh x bs) shape_128 e

taken_of : (q w : Pool) (t : ℕ) → q ≡ w → extract (shape_of input_words) t q ≡ extract input_shape t w
taken_of q w t e = ap₂ (λ (sh : Shape) (x : Pool). extract sh t x) shape_128 e

-- a timer that is kept, and one that is not
kept_on : (p : Plan) (d : ℕ) (ts : Timers) → p.keeps ≡ true → timers_after d p ts ≡ kept d p.timer ts
unfolding pick
kept_on p d ts e = rw e refl

kept_off : (p : Plan) (d : ℕ) (ts : Timers) → p.keeps ≡ false → timers_after d p ts ≡ ts
unfolding pick
kept_off p d ts e = rw e refl

-- the fast pool of a call that does not stir it
unstirred : (c : Call) (p : Plan) (k : Keeper) → p.stirs ≡ false → fast_after c p k ≡ k.fast
unfolding pick
unstirred c p k e = rw e refl

-- ---- device event
event_takes : (p : Plan) (k : Keeper) (device now stamp value : ℕ) → p.feeds ≡ true
    → for_reseed (device_event device now stamp value) p k ≡ extract input_shape p.reseed (mix input_shape (input_pool k) (event_bytes stamp now value))
unfolding pick
event_takes p k device now stamp value e = rw e refl

pub event-done : (k : Keeper) (device now stamp value : ℕ) (p : Plan) (ts : Timers) (v q r : Pool) (g : List ℕ)
    → let e = extract (shape_of input_words) p.reseed q in
    Planned k (event device now value) p → EventPlan device p
    → ts ≡ kept device p.timer (timers_in k)
    → v ≡ input_pool k → q ≡ mix (shape_of input_words) v (event_bytes stamp now value) → r ≡ e.pool → g ≡ onto_key e.bytes k.generator
    → left (keeper_of (moved_on r.spot p.ledger) ts r.words k.blocking k.fast g) (answer_of p) []
    ≡ leaves k (device_event device now stamp value) []
event-done k device now stamp value p ts v q r g ep sh et ev em er eg =
    let c = device_event device now stamp value in
    let t = taken_of q _ p.reseed (mixed v _ q _ ev em) ∙ sym (event_takes p k device now stamp value sh.feeds) in
    parts (moved_spots k _ p ep r.spot ∙ ap (λ (v : Spot). with_spots v k.ledger.blocking.spot p.ledger) (ap (λ (x : Pool). x.spot) er ∙ ap (λ (e : Extract). e.pool.spot) t))
    (et ∙ sym (kept_on p device (timers_in k) sh.keeps))
    (ap (λ (x : Pool). x.words) er ∙ ap (λ (e : Extract). e.pool.words) t)
    refl
    (sym (unstirred c p k sh.stirs))
    (eg ∙ ap (λ (e : Extract). onto_key e.bytes k.generator) t)
    refl
    ∙ sym (accepted k c [] p ep ∙ fed c p k [] sh.rest_still)

-- ---- interrupt
interrupt_stirs : (p : Plan) (k : Keeper) (now number stamp address : ℕ) → p.stirs ≡ true
    → fast_after (interrupted now number stamp address) p k ≡ stirred now number stamp address k.fast
unfolding pick
interrupt_stirs p k now number stamp address e = rw e refl

-- one that only stirs
pub interrupt-stays : (k : Keeper) (now number stamp address : ℕ) (p : Plan) (fast : List ℕ)
    → Planned k (interrupt now number) p → InterruptPlan p → p.feeds ≡ false
    → fast ≡ stirred now number stamp address k.fast
    → left (keeper_of p.ledger (timers_in k) k.input k.blocking fast k.generator) (answer_of p) []
    ≡ leaves k (interrupted now number stamp address) []
unfolding xor_at bytes_words
interrupt-stays k now number stamp address p fast ep sh eq ef =
    let c = interrupted now number stamp address in
    let r = sym (untouched c p k eq (sh.unfed eq)) in
    let still : p.ledger ≡ with_spots k.ledger.input.spot k.ledger.blocking.spot p.ledger =
    ap (λ (s : Spot). moved_on s p.ledger) (spots _ _ _ _ p ep.is).input ∙ moved_spots k _ p ep k.ledger.input.spot in
    parts (still ∙ ap (λ (e : Extract). with_spots e.pool.spot k.ledger.blocking.spot p.ledger) r)
    (sym (kept_off p 0 (timers_in k) sh.keeps))
    (ap (λ (e : Extract). e.pool.words) r)
    refl
    (ef ∙ sym (interrupt_stirs p k now number stamp address sh.stirs))
    (ap (λ (e : Extract). onto_key e.bytes k.generator) r)
    refl
    ∙ sym (accepted k c [] p ep ∙ fed c p k [] sh.rest_still)

-- one that spills
interrupt_takes : (p : Plan) (k : Keeper) (now number stamp address : ℕ) → p.stirs ≡ true → p.feeds ≡ true
    → for_reseed (interrupted now number stamp address) p k
    ≡ extract input_shape p.reseed (mix input_shape (input_pool k) (words_bytes (stirred now number stamp address k.fast)))
unfolding pick
interrupt_takes p k now number stamp address e f = rw (e, f) refl

pub interrupt-done : (k : Keeper) (now number stamp address : ℕ) (p : Plan) (fast : List ℕ) (v q r : Pool) (g : List ℕ)
    → let e = extract (shape_of input_words) p.reseed q in
    Planned k (interrupt now number) p → InterruptPlan p → p.feeds ≡ true
    → fast ≡ stirred now number stamp address k.fast
    → v ≡ input_pool k → q ≡ mix (shape_of input_words) v (words_bytes fast) → r ≡ e.pool → g ≡ onto_key e.bytes k.generator
    → left (keeper_of (moved_on r.spot p.ledger) (timers_in k) r.words k.blocking fast g) (answer_of p) []
    ≡ leaves k (interrupted now number stamp address) []
interrupt-done k now number stamp address p fast v q r g ep sh es ef ev em er eg =
    let c = interrupted now number stamp address in
    let m = mixed v _ q _ ev em ∙ ap (λ (f : List ℕ). mix input_shape (input_pool k) (words_bytes f)) ef in
    let t = taken_of q _ p.reseed m ∙ sym (interrupt_takes p k now number stamp address sh.stirs es) in
    parts (moved_spots k _ p ep r.spot ∙ ap (λ (v : Spot). with_spots v k.ledger.blocking.spot p.ledger) (ap (λ (x : Pool). x.spot) er ∙ ap (λ (e : Extract). e.pool.spot) t))
    (sym (kept_off p 0 (timers_in k) sh.keeps))
    (ap (λ (x : Pool). x.words) er ∙ ap (λ (e : Extract). e.pool.words) t)
    refl
    (ef ∙ sym (interrupt_stirs p k now number stamp address sh.stirs))
    (eg ∙ ap (λ (e : Extract). onto_key e.bytes k.generator) t)
    refl
    ∙ sym (accepted k c [] p ep ∙ fed c p k [] sh.rest_still)

-- ---- seed
seed_takes : (p : Plan) (k : Keeper) (now : ℕ) (bs : List ℕ) (credit : ℕ) → p.feeds ≡ true
    → for_reseed (seeded_with now bs credit) p k ≡ extract input_shape p.reseed (mix input_shape (input_pool k) bs)
unfolding pick
seed_takes p k now bs credit e = rw e refl

pub seed-done : (k : Keeper) (now : ℕ) (bs : List ℕ) (credit : ℕ) (p : Plan) (v q r : Pool) (g : List ℕ)
    → let e = extract (shape_of input_words) p.reseed q in
    Planned k (seed now (length bs) credit) p → FedPlan p
    → v ≡ input_pool k → q ≡ mix (shape_of input_words) v bs → r ≡ e.pool → g ≡ onto_key e.bytes k.generator
    → left (keeper_of (moved_on r.spot p.ledger) (timers_in k) r.words k.blocking k.fast g) (answer_of p) []
    ≡ leaves k (seeded_with now bs credit) []
seed-done k now bs credit p v q r g ep sh ev em er eg =
    let c = seeded_with now bs credit in
    let t = taken_of q _ p.reseed (mixed v _ q _ ev em) ∙ sym (seed_takes p k now bs credit sh.feeds) in
    parts (moved_spots k _ p ep r.spot ∙ ap (λ (v : Spot). with_spots v k.ledger.blocking.spot p.ledger) (ap (λ (x : Pool). x.spot) er ∙ ap (λ (e : Extract). e.pool.spot) t))
    (sym (kept_off p 0 (timers_in k) sh.keeps))
    (ap (λ (x : Pool). x.words) er ∙ ap (λ (e : Extract). e.pool.words) t)
    refl
    (sym (unstirred c p k sh.stirs))
    (eg ∙ ap (λ (e : Extract). onto_key e.bytes k.generator) t)
    refl
    ∙ sym (accepted k c [] p ep ∙ fed c p k [] sh.rest_still)

-- ---- write
write_takes : (p : Plan) (k : Keeper) (bs : List ℕ) → WritePlan p → for_reseed (written bs) p k ≡ record { bytes = []; pool = mix input_shape (input_pool k) bs; runs = 0 }
unfolding pick
write_takes p k bs sh = rw sh.fed.feeds (none_taken input_shape p.reseed _ sh.reseed)

pub write_done : (k : Keeper) (bs : List ℕ) (p : Plan) (v q : Pool)
    → Planned k (write (length bs)) p → WritePlan p
    → v ≡ input_pool k → q ≡ mix (shape_of input_words) v bs
    → left (keeper_of (moved_on q.spot p.ledger) (timers_in k) q.words k.blocking k.fast k.generator) (answer_of p) []
    ≡ leaves k (written bs) []
unfolding xor_at bytes_words
write_done k bs p v q ep sh ev em =
    let c = written bs in
    let m = mixed v _ q _ ev em in
    let r = write_takes p k bs sh in
    parts (moved_spots k _ p ep q.spot ∙ ap (λ (v : Spot). with_spots v k.ledger.blocking.spot p.ledger) (ap (λ (x : Pool). x.spot) m ∙ sym (ap (λ (e : Extract). e.pool.spot) r)))
    (sym (kept_off p 0 (timers_in k) sh.fed.keeps))
    (ap (λ (x : Pool). x.words) m ∙ sym (ap (λ (e : Extract). e.pool.words) r))
    refl
    (sym (unstirred c p k sh.fed.stirs))
    (sym (ap (λ (e : Extract). onto_key e.bytes k.generator) r))
    refl
    ∙ sym (accepted k c [] p ep ∙ fed c p k [] sh.fed.rest_still)

-- ---- generator read
read_takes : (p : Plan) (k : Keeper) (now len : ℕ) → p.feeds ≡ false
    → for_reseed (generator_read now len) p k ≡ extract input_shape p.reseed (input_pool k)
unfolding pick
read_takes p k now len e = rw (e, (laws input_shape).mix_none (input_pool k)) refl

-- a room that is filled holds the bytes and nothing else
filled : (room bs : List ℕ) → length bs ≡ length room → room_after room bs ≡ bs
filled room bs e = ap (λ (t : List ℕ). bs ++ t) (drop_of_length-le room {i = length bs} (omega (arith, e))) ∙ append-nil bs

pub read_done : (k : Keeper) (now : ℕ) (room : List ℕ) (p : Plan) (v r : Pool) (g h out : List ℕ)
    → let e = extract (shape_of input_words) p.reseed v in
    Planned k (read now (length room)) p → ReadPlan (length room) p → length k.generator ≡ 16
    → v ≡ input_pool k → r ≡ e.pool → g ≡ onto_key e.bytes k.generator
    → out ≡ (generated (length room) g).bytes → h ≡ (generated (length room) g).generator
    → left (keeper_of (moved_on r.spot p.ledger) (timers_in k) r.words k.blocking k.fast h) (answer_of p) out
    ≡ leaves k (generator_read now (length room)) room
read_done k now room p v r g h out ep sh hg ev er eg eo eh =
    let c = generator_read now (length room) in
    let t = taken_of v _ p.reseed ev ∙ sym (read_takes p k now (length room) sh.feeds) in
    let key : g ≡ onto_key (for_reseed c p k).bytes k.generator = eg ∙ ap (λ (e : Extract). onto_key e.bytes k.generator) t in
    let made : generated (length room) g ≡ from_generator c p k = ap₂ generated (sym sh.whole) key in
    let long : length g ≡ 16 = ap length eg ∙ key_length _ k.generator ∙ hg in
    let all-of-it : length (from_generator c p k).bytes ≡ p.stream = ap (λ (s : Stream). length s.bytes) (sym made) ∙ generated-length (length room) g long ∙ sym sh.whole in
    let full : room_after room (generated (length room) g).bytes ≡ (generated (length room) g).bytes = filled room _ (generated-length (length room) g long) in
    parts (moved_spots k _ p ep r.spot ∙ ap (λ (v : Spot). with_spots v k.ledger.blocking.spot p.ledger) (ap (λ (x : Pool). x.spot) er ∙ ap (λ (e : Extract). e.pool.spot) t))
    (sym (kept_off p 0 (timers_in k) sh.keeps))
    (ap (λ (x : Pool). x.words) er ∙ ap (λ (e : Extract). e.pool.words) t)
    refl
    (sym (unstirred c p k sh.stirs))
    (eh ∙ ap (λ (s : Stream). s.generator) made)
    (eo ∙ sym full ∙ ap (λ (s : Stream). room_after room s.bytes) made)
    ∙ sym (accepted k c room p ep ∙ over-room c p k room _ (rests_blocking c p k sh.transfer sh.deliver) all-of-it)

-- ---- blocking read
blocking_takes : (p : Plan) (k : Keeper) (len : ℕ) → p.feeds ≡ false → p.reseed ≡ 0
    → for_transfer (blocking_read_of len) p k ≡ extract input_shape p.transfer (input_pool k)
unfolding pick
blocking_takes p k len e z =
    rw (e, (laws input_shape).mix_none (input_pool k)) (ap (λ (x : Extract). extract input_shape p.transfer x.pool) (none_taken input_shape p.reseed (input_pool k) z))

pub blocking_done : (k : Keeper) (room : List ℕ) (p : Plan) (v w q r s : Pool) (out : List ℕ)
    → let t = extract (shape_of input_words) p.transfer v in
    let d = extract (shape_of blocking_words) p.deliver r in
    Planned k (blocking_read (length room)) p → BlockingPlan (length room) p
    → v ≡ input_pool k → w ≡ blocking_pool k
    → q ≡ t.pool → r ≡ mix (shape_of blocking_words) w t.bytes → s ≡ d.pool → out ≡ d.bytes ++ drop p.deliver room
    → left (keeper_of (with_spots q.spot s.spot p.ledger) (timers_in k) q.words s.words k.fast k.generator) (answer_of p) out
    ≡ leaves k (blocking_read_of (length room)) room
blocking_done k room p v w q r s out ep sh ev ew eq er es eo =
    let c = blocking_read_of (length room) in
    let t : extract (shape_of input_words) p.transfer v ≡ for_transfer c p k =
    taken_of v _ p.transfer ev ∙ sym (blocking_takes p k (length room) sh.feeds sh.reseed) in
    let m : r ≡ mix blocking_shape (blocking_pool k) (for_transfer c p k).bytes =
    er ∙ (λ i. mix (shape_32 i) (ew i) (t i).bytes) in
    let d : extract (shape_of blocking_words) p.deliver r ≡ for_delivery c p k =
    ap₂ (λ (s : Shape) (q : Pool). extract s p.deliver q) shape_32 m in
    let front : room_after room (for_delivery c p k).bytes ≡ (for_delivery c p k).bytes ++ drop p.deliver room =
    in_front_lem room (for_delivery c p k).bytes p.deliver ((laws blocking_shape).take-length p.deliver _) in
    parts (ap₂ (λ (a b : Spot). with_spots a b p.ledger) (ap (λ (x : Pool). x.spot) eq ∙ ap (λ (e : Extract). e.pool.spot) t) (ap (λ (x : Pool). x.spot) es ∙ ap (λ (e : Extract). e.pool.spot) d))
    (sym (kept_off p 0 (timers_in k) sh.keeps))
    (ap (λ (x : Pool). x.words) eq ∙ ap (λ (e : Extract). e.pool.words) t)
    (ap (λ (x : Pool). x.words) es ∙ ap (λ (e : Extract). e.pool.words) d)
    (sym (unstirred c p k sh.stirs))
    refl
    (eo ∙ ap (λ (e : Extract). e.bytes ++ drop p.deliver room) d ∙ sym front)
    ∙ sym (accepted k c room p ep ∙ over-room c p k room _ (rests_generator c p k sh.reseed sh.stream) (ap (λ (s : Stream). length s.bytes) (still-generator c p k sh.reseed sh.stream) ∙ sym sh.stream))
