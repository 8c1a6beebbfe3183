-- What a call will do, decided from public numbers alone: the ledger, one device's timer, and the call's public fields. Tests stand
-- in the paper's order: length before credit, blocking and seeding; device before the repeated value; a read of length 0 answers 0.
use Rattle.std.specs.Prelude.{Bool, true, false, ◌&&◌, not, ℕ, ◌+◌, ◌*◌, ◌≤◌, ltb, leb, eqb}
use Rattle.ledger.specs.Choice.{pick}
use Rattle.ledger.specs.Sizes.{devices, longest}
use Rattle.ledger.specs.Numbers.{done, would_block, unseeded, too_long, no_such_device, credit_too_high, repeated, out_of_range}
use Rattle.ledger.specs.Shapes.{input_shape, blocking_shape}
use Rattle.ledger.specs.Places.{costs}
use Rattle.ledger.specs.Credits.{crediting, taken, debited, reseed_takes, transfer_takes}
use Rattle.ledger.specs.Clocks.{next_timer, event_bits}
use Rattle.ledger.specs.Timers.{fresh_timer}
use Rattle.ledger.specs.Streams.{stream_blocks}
use Rattle.ledger.specs.Marks.{is_seeded, input_counts, blocking_counts, seeded_by, valued, tallied, spilled, stays, reseed_due, is_low}
use Rattle.ledger.specs.Range.{ledger_in_range, timer_in_range}
use Rattle.ledger.specs.PublicCalls.{PublicCall, event, interrupt, write, seed, read, blocking_read}
use Rattle.ledger.specs.declared.Credited.{Credited}
use Rattle.ledger.specs.declared.Ledger.{Ledger}
use Rattle.ledger.specs.declared.Timer.{Timer}
use Rattle.ledger.specs.declared.Plan.{Plan}
use Rattle.ledger.specs.declared.Answer.{Answer}

-- a plan that keeps no timer
abbrev pub plan_of : ℕ → Ledger → ℕ → Bool → Bool → ℕ → ℕ → ℕ → ℕ → Plan
plan_of number l added stirs feeds reseed transfer deliver stream =
    record { number = number; ledger = l; added = added; timer = fresh_timer; keeps = false; stirs = stirs; feeds = feeds; reseed = reseed; transfer = transfer; deliver = deliver; stream = stream }

-- answer n, and nothing is done
abbrev pub idle : ℕ → Ledger → Plan
idle n l = plan_of n l 0 false false 0 0 0 0

-- the bytes of a first seeding: after crediting n > 0 to the input pool, an unseeded keeper with a count of 1,024 or more reseeds
unfoldable pub first_seeding : ℕ → ℕ → Ledger → ℕ
first_seeding n count l = pick (not (eqb n 0) && (not (is_seeded l) && leb 1024 count)) (reseed_takes count) 0

-- the input pool at a count of c, of which a reseed then takes t bytes
abbrev pub reseeding : ℕ → ℕ → ℕ → Ledger → Ledger
reseeding now c t l = seeded_by t now (input_counts (debited t c) l)

-- the call's bytes are mixed into the input pool and n bits credited; l has the marks that the call keeps
unfoldable pub feed : ℕ → Bool → ℕ → Ledger → Plan
feed now stirs n l =
    let c = crediting input_shape.size n l.input.count in
    let t = first_seeding n c.count l in
    plan_of done (reseeding now c.count t l) c.added stirs true t 0 0 0

-- the same plan, with a timer that is kept
abbrev pub keeping : Timer → Plan → Plan
keeping t p =
    record { number = p.number; ledger = p.ledger; added = p.added; timer = t; keeps = true; stirs = p.stirs; feeds = p.feeds; reseed = p.reseed; transfer = p.transfer; deliver = p.deliver; stream = p.stream }

-- device event: on device 0 a value equal to the last one kept is answer 7
unfoldable pub plan_event : ℕ → ℕ → ℕ → Timer → Ledger → Plan
plan_event device now value t l =
    pick (leb devices device) (idle no_such_device l)
    (pick (eqb device 0 && eqb value l.value) (idle repeated l)
    (keeping (next_timer now t) (feed now false (event_bits now t) (valued device value l))))

-- interrupt: the fast pool is stirred, and that is all; else it spills and 1 bit is credited
unfoldable pub plan_interrupt : ℕ → Ledger → Plan
plan_interrupt now l =
    pick (stays now l) (plan_of done (tallied l) 0 true false 0 0 0 0) (feed now true 1 (spilled now l))

-- write: no credit
unfoldable pub plan_write : ℕ → Ledger → Plan
plan_write len l = pick (ltb longest len) (idle too_long l) (plan_of done l 0 false true 0 0 0 0)

-- seed: the named bits, at most 8 for each byte
unfoldable pub plan_seed : ℕ → ℕ → ℕ → Ledger → Plan
plan_seed now len credit l =
    pick (ltb longest len) (idle too_long l) (pick (ltb (8 * len) credit) (idle credit_too_high l) (feed now false credit l))

-- generator read: if now - seeding clock exceeds 300,000, reseed first
unfoldable pub plan_read : ℕ → ℕ → Ledger → Plan
plan_read now len l =
    let t = pick (reseed_due now l) (reseed_takes l.input.count) 0 in
    pick (ltb longest len) (idle too_long l)
    (pick (eqb len 0) (idle done l)
    (pick (not (is_seeded l)) (idle unseeded l) (plan_of done (reseeding now l.input.count t l) 0 false false t 0 0 len)))

-- the bytes that a blocking read of n brings over from the input pool
abbrev pub transferred : ℕ → Ledger → ℕ
transferred n l = pick (ltb l.blocking.count (64 * n)) (transfer_takes n l.input.count) 0

-- what t bytes that came over give the blocking pool, eight bits a byte
abbrev pub refilled : ℕ → Ledger → Credited
refilled t l = crediting blocking_shape.size (8 * t) l.blocking.count

-- blocking read
unfoldable pub plan_blocking_read : ℕ → Ledger → Plan
plan_blocking_read n l =
    let t = transferred n l in
    let c = refilled t l in
    let d = taken n 0 c.count in
    pick (ltb longest n) (idle too_long l)
    (pick (eqb n 0) (idle done l)
    (pick (is_low l) (idle would_block l) (plan_of done (blocking_counts (debited d c.count) (input_counts (debited t l.input.count) l)) c.added false false 0 t d 0)))

unfoldable pub plan_call : Ledger → Timer → PublicCall → Plan
plan_call l t (event device now value) = plan_event device now value t l
plan_call l t (interrupt now number) = plan_interrupt now l
plan_call l t (write len) = plan_write len l
plan_call l t (seed now len credit) = plan_seed now len credit l
plan_call l t (read now len) = plan_read now len l
plan_call l t (blocking_read len) = plan_blocking_read len l

-- every call tests 17 first. What is decided from, the ledger and one timer, is tested here; `others` is the test of the rest of the
-- record, all timers and generator words 0 to 3.
unfoldable pub decide : Bool → Ledger → Timer → PublicCall → Plan
decide others l t c = pick (others && (ledger_in_range l && timer_in_range t)) (plan_call l t c) (idle out_of_range l)

-- ---- what a plan costs and hands out
-- a plan's numbers of bytes, as far as any plan goes
pub record Small (p : Plan) : Type 0 where
  pub reseed : p.reseed ≤ 32
  pub transfer : p.transfer ≤ 128
  pub deliver : p.deliver ≤ longest
  pub stream : p.stream ≤ longest

-- the compressions of its three extractions
abbrev pub compressions_run : Plan → ℕ
compressions_run p = costs input_shape p.reseed + costs input_shape p.transfer + costs blocking_shape p.deliver

-- the answer to a plan that is carried out; a plan without a stream runs no block
abbrev pub answer_of : Plan → Answer
answer_of p = record { number = p.number; delivered = p.deliver + p.stream; blocks = stream_blocks p.stream; compressions = compressions_run p; added = p.added }

-- a number and no more: nothing delivered, no work, nothing added
abbrev pub bare : ℕ → Answer
bare n = record { number = n; delivered = 0; blocks = 0; compressions = 0; added = 0 }
