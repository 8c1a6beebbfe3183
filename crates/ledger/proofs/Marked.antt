-- The marked cases P1 to P12, and the edges that none of them meets, in one table: each row has what the definitions give beside what
-- it has to be, and computing shows that they are the same.
use mathlib.Core.Path.{◌≡◌, refl, ap, ap₂, ◌∙◌}
use mathlib.Core.Bool.{Bool, true, false, ◌&&◌}
use mathlib.Core.List.{List, [], ◌∷◌, map}
use Prim.Native.Nat.{ℕ, ◌+◌, ◌-◌, ◌/◌}
use lib.Dec.{eqb}
use lib.IntN.{ℤ, pos, negsuc}
use lib.ListN.{length, replicate, set}
use borrow.Author.Tests.{eqb-true}
use Rattle.ledger.specs.Choice.{pick}
use Rattle.ledger.specs.Sizes.{devices}
use Rattle.ledger.specs.Places.{moved, moved_blocks, extracted_from, costs}
use Rattle.ledger.specs.Credits.{turn_takes, turn_adds, further, credited, crediting, further_adds, credit_adds, taken}
use Rattle.ledger.specs.Clocks.{signed, clock_diff, log2, estimate, event_bits}
use Rattle.ledger.specs.Marks.{with_seeding, is_seeded, fresh_ledger}
use Rattle.ledger.specs.Timers.{Timers, timer_of, kept}
use Rattle.ledger.specs.Range.{View, every, fixed_words, ledger_in_range, others_in_range}
use Rattle.ledger.specs.PublicCalls.{PublicCall, event, interrupt, write, seed, read, blocking_read}
use Rattle.ledger.specs.Plans.{first_seeding, feed, plan_event, plan_interrupt, plan_write, plan_seed, plan_read, plan_blocking_read, plan_call, decide}
use Rattle.ledger.specs.Machine.{Shown, fresh_view, input_moved, blocking_moved, planned, plan_at, step_view}
use Rattle.ledger.specs.declared.Spot.{Spot}
use Rattle.ledger.specs.declared.Timer.{Timer}
use Rattle.ledger.proofs.Picks.{and_left, and_right}
use Rattle.ledger.proofs.InRange.{view_after}
use Rattle.ledger.proofs.KeptTimers.{Rows}
use Rattle.ledger.proofs.FewDevices.{more, with_more, fresh_of, held, timer_more, plan_more, step-more, step_rows, view_more, fresh-more}

-- ---- how a row is written
-- a line has number, delivered, input count and blocking count afterwards, ChaCha20 blocks, compressions, units added, and whether it is
-- seeded
abbrev pub Line : Type 0
Line = ℕ × ℕ × ℕ × ℕ × ℕ × ℕ × ℕ × Bool

-- what an answer shows
abbrev pub line : Shown → Line
line s = (s.answer.number, s.answer.delivered, s.view.ledger.input.count, s.view.ledger.blocking.count, s.answer.blocks, s.answer.compressions, s.answer.added, is_seeded s.view.ledger)

-- the lines of calls made one after the other
unfoldable pub lines_from : View → List PublicCall → List Line
lines_from v [] = []
lines_from v (c ∷ cs) = line (step_view v c) ∷ lines_from (step_view v c).view cs

-- an answer: plain numbers, differences of clocks, lines, or a timer
pub data Side : Type 0 where
  numbers : List ℕ → Side
  differences : List ℤ → Side
  lines : List Line → Side
  timer : Timer → Side

-- what is asked, of numbers alone or of calls at a view whose table has few timers
pub data Question : Type 0 where
  given : Side → Question
  -- what calls made one after the other show
  from : View → List PublicCall → Question
  -- what each of some calls is answered at one and the same view, and one call at each of some views
  each : View → List PublicCall → Question
  at_each : List View → PublicCall → Question
  -- the bytes that a call takes for a reseed
  reseeds : View → PublicCall → Question
  -- after calls made one after the other: where the next bytes go in both pools, a device's timer, and how many kept events of some devices came
  spots_after : View → List PublicCall → Question
  timer_after : ℕ → View → List PublicCall → Question
  came_after : List ℕ → View → List PublicCall → Question

-- where the next bytes go in both pools
abbrev pub spots : View → List ℕ
spots v = let l = v.ledger in l.input.spot.at ∷ l.input.spot.turn ∷ l.blocking.spot.at ∷ l.blocking.spot.turn ∷ []

-- the answer that the definitions give, at the views that f makes of those in the question
unfoldable pub answered : (View → View) → Question → Side
answered f (given s) = s
answered f (from v cs) = lines (lines_from (f v) cs)
answered f (each v cs) = numbers (map (λ c. (step_view (f v) c).answer.number) cs)
answered f (at_each vs c) = numbers (map (λ v. (step_view (f v) c).answer.number) vs)
answered f (reseeds v c) = numbers ((plan_at (f v) c).reseed ∷ [])
answered f (spots_after v cs) = numbers (spots (view_after (f v) cs))
answered f (timer_after d v cs) = timer (timer_of (view_after (f v) cs).timers d)
answered f (came_after ds v cs) = numbers (map (λ d. (timer_of (view_after (f v) cs).timers d).came) ds)

-- ---- how a question is written
-- how many timers the tables of the questions have
abbrev pub few : ℕ
few = 16

-- a fresh view
abbrev pub blank : View
blank = fresh_of few

-- what calls show from a fresh start
abbrev pub fresh : List PublicCall → Question
fresh cs = from blank cs

-- the count after n bits are credited to a pool of size S, and the units added
abbrev pub credit : ℕ → ℕ → ℕ → Question
credit S n count = let c = crediting S n count in given (numbers (c.count ∷ c.added ∷ []))

-- a seed of just enough bytes for n bits, at clock 0
abbrev pub bits : ℕ → PublicCall
bits n = seed 0 ((n + 7) / 8) n

-- a position and a rotation
abbrev pub spot : ℕ → ℕ → Spot
spot i r = record { at = i; turn = r }

-- a view that is fresh but for its counts, its spots, its tally, the d1 and d2 of device 15, and the fixed words
abbrev pub but : ℕ → ℕ → Spot → Spot → ℕ → ℤ → ℤ → List ℕ → View
but i b si sb n d1 d2 words =
    record {
      ledger = record { input = record { count = i; spot = si }; blocking = record { count = b; spot = sb }; value = 0; spill = record { tally = n; clock = 0 }; seeding = fresh_ledger.seeding };
      timers = kept 15 (record { clock = 0; d1 = d1; d2 = d2; came = 0 }) blank.timers;
      fixed = words;
    }

-- a view that is fresh but for its counts
abbrev pub counts : ℕ → ℕ → View
counts i b = but i b (spot 0 0) (spot 0 0) 0 (pos 0) (pos 0) fixed_words

-- a view of which so many kept events of a device came, whose timer is else fresh
abbrev pub came : ℕ → ℕ → View → View
came n device v = record { ledger = v.ledger; timers = kept device (record { clock = 0; d1 = pos 0; d2 = pos 0; came = n }) v.timers; fixed = v.fixed }

-- a view that is fresh but for its seeded mark
abbrev pub seeded_mark : ℕ → View
seeded_mark n = record { ledger = with_seeding (record { mark = n; clock = 0 }) fresh_ledger; timers = blank.timers; fixed = fixed_words }

-- ---- the table
abbrev pub table : List (Question × Side)
table =
    -- P1, P2: the credit for a least amount
    (given (numbers (map estimate (0 ∷ 1 ∷ 2 ∷ 3 ∷ 4 ∷ []))), numbers (0 ∷ 0 ∷ 1 ∷ 1 ∷ 2 ∷ []))
    ∷ (given (numbers (map estimate (2047 ∷ 2048 ∷ 4096 ∷ []))), numbers (10 ∷ 11 ∷ 11 ∷ []))
    -- P3, P4: clock 4 after 0xFFFFFFFF, and 0x80000000 after 0
    ∷ (given (differences (clock_diff 4 0xFFFFFFFF ∷ clock_diff 0x80000000 0 ∷ [])), differences (pos 5 ∷ negsuc 2147483647 ∷ []))
    -- P5, P6: one bit onto 0 and onto 32,762
    ∷ (credit 32768 1 0, numbers (6 ∷ 6 ∷ []))
    ∷ (credit 32768 1 32762, numbers (32762 ∷ 0 ∷ []))
    -- near the top a turn adds little, and turns go on as long as the count is below 32,766: 8,192 bits onto 32,760
    ∷ (credit 32768 8192 32760, numbers (32766 ∷ 6 ∷ []))
    -- a credit of 0 adds nothing, whatever the count; onto a full pool nothing is added either
    ∷ (credit 32768 0 5000, numbers (5000 ∷ 0 ∷ []))
    ∷ (credit 32768 4096 32768, numbers (32768 ∷ 0 ∷ []))
    -- P7: 170 bits
    ∷ (fresh (bits 170 ∷ []), lines ((0, 0, 1020, 0, 0, 0, 1020, false) ∷ []))
    -- P8: 171 bits; 16 bytes are taken
    ∷ (fresh (bits 171 ∷ []), lines ((0, 0, 2, 0, 0, 16, 1026, true) ∷ []))
    ∷ (reseeds blank (bits 171), numbers (16 ∷ []))
    -- P9: 256 bits; 24 bytes are taken
    ∷ (fresh (bits 256 ∷ []), lines ((0, 0, 0, 0, 0, 24, 1536, true) ∷ []))
    ∷ (reseeds blank (bits 256), numbers (24 ∷ []))
    -- P10: 4,096 bits, whose two turns come to 12,288 and 19,968 and leave no rest; P11: straight after it, a blocking read of 16
    ∷ (given (numbers ((0 + turn_adds 32768 0 32768) ∷ (32768 - turn_takes 32768 32768) ∷ (12288 + turn_adds 32768 12288 16384) ∷ (16384 - turn_takes 32768 16384) ∷ credited 32768 4096 0 ∷ [])), numbers (12288 ∷ 16384 ∷ 19968 ∷ 0 ∷ 19968 ∷ []))
    ∷ (given (numbers (credit_adds 32768 4096 0)), numbers (12288 ∷ 7680 ∷ []))
    ∷ (fresh (bits 4096 ∷ blocking_read 16 ∷ []), lines ((0, 0, 17920, 0, 0, 32, 19968, true) ∷ (0, 12, 16896, 0, 0, 20, 768, true) ∷ []))
    -- P12: generator reads of 32, 33, 64, 65 and 97 bytes with no reseed due
    ∷ (fresh (bits 256 ∷ read 0 32 ∷ read 0 33 ∷ read 0 64 ∷ read 0 65 ∷ read 0 97 ∷ []), lines ((0, 0, 0, 0, 0, 24, 1536, true) ∷ (0, 32, 0, 0, 1, 0, 0, true) ∷ (0, 33, 0, 0, 2, 0, 0, true) ∷ (0, 64, 0, 0, 2, 0, 0, true) ∷ (0, 65, 0, 0, 2, 0, 0, true) ∷ (0, 97, 0, 0, 3, 0, 0, true) ∷ []))
    -- the shortest and the longest generator read, one whose used bytes are rounded up to 32, and two that use just 32 of the last block
    ∷ (fresh (bits 256 ∷ read 0 1 ∷ read 0 4096 ∷ read 0 93 ∷ read 0 96 ∷ read 0 160 ∷ []), lines ((0, 0, 0, 0, 0, 24, 1536, true) ∷ (0, 1, 0, 0, 1, 0, 0, true) ∷ (0, 4096, 0, 0, 65, 0, 0, true) ∷ (0, 93, 0, 0, 2, 0, 0, true) ∷ (0, 96, 0, 0, 2, 0, 0, true) ∷ (0, 160, 0, 0, 3, 0, 0, true) ∷ []))
    -- a new device earns nothing: the event of 60 units on a fresh keeper
    ∷ (fresh (event 1 1024 0 ∷ []), lines ((0, 0, 0, 0, 0, 0, 0, false) ∷ []))
    -- first to fifth event of a device, each with an estimate above 0: the fourth is the first that earns, by the clocks of all four
    ∷ (fresh (event 1 1024 0 ∷ event 1 3000 0 ∷ event 1 7000 0 ∷ event 1 15000 0 ∷ event 1 31000 0 ∷ []), lines ((0, 0, 0, 0, 0, 0, 0, false) ∷ (0, 0, 0, 0, 0, 0, 0, false) ∷ (0, 0, 0, 0, 0, 0, 0, false) ∷ (0, 0, 60, 0, 0, 0, 60, false) ∷ (0, 0, 125, 0, 0, 0, 65, false) ∷ []))
    -- the same on device 0, with an event answered 7 in between, which does not count
    ∷ (fresh (event 0 1024 1 ∷ event 0 2000 1 ∷ event 0 3000 2 ∷ event 0 7000 3 ∷ event 0 15000 4 ∷ event 0 31000 5 ∷ []), lines ((0, 0, 0, 0, 0, 0, 0, false) ∷ (7, 0, 0, 0, 0, 0, 0, false) ∷ (0, 0, 0, 0, 0, 0, 0, false) ∷ (0, 0, 0, 0, 0, 0, 0, false) ∷ (0, 0, 60, 0, 0, 0, 60, false) ∷ (0, 0, 125, 0, 0, 0, 65, false) ∷ []))
    -- two devices in turn: each has a count of its own
    ∷ (fresh (event 1 1024 0 ∷ event 2 1024 0 ∷ event 1 3000 0 ∷ event 2 3000 0 ∷ event 1 7000 0 ∷ event 2 7000 0 ∷ event 1 15000 0 ∷ event 2 15000 0 ∷ []), lines ((0, 0, 0, 0, 0, 0, 0, false) ∷ (0, 0, 0, 0, 0, 0, 0, false) ∷ (0, 0, 0, 0, 0, 0, 0, false) ∷ (0, 0, 0, 0, 0, 0, 0, false) ∷ (0, 0, 0, 0, 0, 0, 0, false) ∷ (0, 0, 0, 0, 0, 0, 0, false) ∷ (0, 0, 60, 0, 0, 0, 60, false) ∷ (0, 0, 119, 0, 0, 0, 59, false) ∷ []))
    -- clock, d1 and d2 are kept from the first event on
    ∷ (timer_after 1 blank (event 1 1024 0 ∷ []), timer (record { clock = 1024; d1 = pos 1024; d2 = pos 1024; came = 1 }))
    ∷ (timer_after 1 blank (event 1 1024 0 ∷ event 1 3000 0 ∷ []), timer (record { clock = 3000; d1 = pos 1976; d2 = pos 952; came = 2 }))
    -- what is counted: nothing at first, kept events up to three, of each device by itself, and none that is answered 4, 7 or 17
    ∷ (came_after (0 ∷ 1 ∷ 15 ∷ 1023 ∷ []) blank [], numbers (0 ∷ 0 ∷ 0 ∷ 0 ∷ []))
    ∷ (came_after (0 ∷ 1 ∷ 2 ∷ 3 ∷ 4 ∷ 14 ∷ 15 ∷ []) blank (event 0 0 0 ∷ event 1024 0 0 ∷ interrupt 0 0 ∷ bits 8 ∷ event 0 0 1 ∷ event 0 0 1 ∷ event 3 0 0 ∷ event 3 0 0 ∷ event 15 0 0 ∷ event 15 0 0 ∷ event 15 0 0 ∷ event 15 0 0 ∷ []), numbers (1 ∷ 0 ∷ 0 ∷ 2 ∷ 0 ∷ 0 ∷ 3 ∷ []))
    ∷ (came_after (2 ∷ 3 ∷ 4 ∷ []) (counts 32769 0) (event 3 0 0 ∷ []), numbers (0 ∷ 0 ∷ 0 ∷ []))
    -- two that came are too few, three are enough
    ∷ (from (came 2 1 blank) (event 1 1024 0 ∷ []), lines ((0, 0, 0, 0, 0, 0, 0, false) ∷ []))
    ∷ (from (came 3 1 blank) (event 1 1024 0 ∷ []), lines ((0, 0, 60, 0, 0, 0, 60, false) ∷ []))
    -- an event of device 1, of which three came, at 1,500: 10 bits; then its clock runs back, and then it does not move
    ∷ (from (came 3 1 blank) (event 1 1500 0 ∷ event 1 0 0 ∷ event 1 0 0 ∷ []), lines ((0, 0, 60, 0, 0, 0, 60, false) ∷ (0, 0, 119, 0, 0, 0, 59, false) ∷ (0, 0, 119, 0, 0, 0, 0, false) ∷ []))
    -- the least of the three amounts counts: all are 1,000, then d2 is 0, then d2 and d3 are 1,000
    ∷ (from (came 3 2 blank) (event 2 1000 0 ∷ event 2 2000 0 ∷ event 2 4000 0 ∷ []), lines ((0, 0, 54, 0, 0, 0, 54, false) ∷ (0, 0, 54, 0, 0, 0, 0, false) ∷ (0, 0, 107, 0, 0, 0, 53, false) ∷ []))
    -- amounts at the ends of the range: d1 at its least twice, so that d2 is then 0, and d1 at its most, with d2 at its most
    ∷ (from (came 3 2 blank) (event 2 0x80000000 0 ∷ event 2 0 0 ∷ event 2 0x7FFFFFFF 0 ∷ []), lines ((0, 0, 66, 0, 0, 0, 66, false) ∷ (0, 0, 66, 0, 0, 0, 0, false) ∷ (0, 0, 131, 0, 0, 0, 65, false) ∷ []))
    -- a reseed is due past 300,000 ticks and not at them, nor where the clock ran back; they count from the last reseed
    ∷ (fresh (bits 4096 ∷ read 300000 1 ∷ read 300001 1 ∷ read 300000 1 ∷ read 0 1 ∷ read 600001 1 ∷ read 600002 1 ∷ []), lines ((0, 0, 17920, 0, 0, 32, 19968, true) ∷ (0, 1, 17920, 0, 1, 0, 0, true) ∷ (0, 1, 15872, 0, 1, 32, 0, true) ∷ (0, 1, 15872, 0, 1, 0, 0, true) ∷ (0, 1, 15872, 0, 1, 0, 0, true) ∷ (0, 1, 15872, 0, 1, 0, 0, true) ∷ (0, 1, 13824, 0, 1, 32, 0, true) ∷ []))
    -- half the clock's range ahead reads as a clock that ran back; one less is the longest wait
    ∷ (fresh (bits 4096 ∷ read 0x80000000 1 ∷ read 0x7FFFFFFF 1 ∷ []), lines ((0, 0, 17920, 0, 0, 32, 19968, true) ∷ (0, 1, 17920, 0, 1, 0, 0, true) ∷ (0, 1, 15872, 0, 1, 32, 0, true) ∷ []))
    -- a reseed that is due and finds fewer than 16 bytes changes nothing, and stays due
    ∷ (fresh (bits 171 ∷ read 300001 1 ∷ bits 256 ∷ read 300001 1 ∷ []), lines ((0, 0, 2, 0, 0, 16, 1026, true) ∷ (0, 1, 2, 0, 1, 0, 0, true) ∷ (0, 0, 1537, 0, 0, 0, 1535, true) ∷ (0, 1, 1, 0, 1, 24, 0, true) ∷ []))
    -- the least of a reseed is 16: 961 units are 15 bytes, and none is taken; 1,030 are 16
    ∷ (fresh (bits 171 ∷ bits 160 ∷ read 300001 1 ∷ bits 12 ∷ read 300001 1 ∷ []), lines ((0, 0, 2, 0, 0, 16, 1026, true) ∷ (0, 0, 961, 0, 0, 0, 959, true) ∷ (0, 1, 961, 0, 1, 0, 0, true) ∷ (0, 0, 1030, 0, 0, 0, 69, true) ∷ (0, 1, 6, 0, 1, 16, 0, true) ∷ []))
    -- an interrupt spills past 1,000 ticks and not at them, nor where the clock ran back
    ∷ (fresh (interrupt 1000 7 ∷ interrupt 0xFFFFFFFF 7 ∷ interrupt 1001 7 ∷ interrupt 2001 7 ∷ interrupt 1000 7 ∷ interrupt 2002 7 ∷ []), lines ((0, 0, 0, 0, 0, 0, 0, false) ∷ (0, 0, 0, 0, 0, 0, 0, false) ∷ (0, 0, 6, 0, 0, 0, 6, false) ∷ (0, 0, 6, 0, 0, 0, 0, false) ∷ (0, 0, 6, 0, 0, 0, 0, false) ∷ (0, 0, 11, 0, 0, 0, 5, false) ∷ []))
    -- the 64th interrupt in a row spills: not the 63rd and not the 65th
    ∷ (from (view_after blank (replicate 62 (interrupt 0 7))) (interrupt 0 7 ∷ interrupt 0 7 ∷ interrupt 0 7 ∷ []), lines ((0, 0, 0, 0, 0, 0, 0, false) ∷ (0, 0, 6, 0, 0, 0, 6, false) ∷ (0, 0, 6, 0, 0, 0, 0, false) ∷ []))
    -- .. and a spill starts the tally again: the 64th after it spills, not the 63rd
    ∷ (from (view_after blank (interrupt 1001 7 ∷ replicate 62 (interrupt 1001 7))) (interrupt 1001 7 ∷ interrupt 1001 7 ∷ []), lines ((0, 0, 6, 0, 0, 0, 0, false) ∷ (0, 0, 11, 0, 0, 0, 5, false) ∷ []))
    -- the first seeding comes at exactly 1,024
    ∷ (fresh (bits 169 ∷ bits 1 ∷ bits 1 ∷ []), lines ((0, 0, 1014, 0, 0, 0, 1014, false) ∷ (0, 0, 1019, 0, 0, 0, 5, false) ∷ (0, 0, 0, 0, 0, 16, 5, true) ∷ []))
    -- and not at 1,023
    ∷ (fresh (bits 168 ∷ bits 1 ∷ bits 1 ∷ bits 1 ∷ bits 1 ∷ []), lines ((0, 0, 1008, 0, 0, 0, 1008, false) ∷ (0, 0, 1013, 0, 0, 0, 5, false) ∷ (0, 0, 1018, 0, 0, 0, 5, false) ∷ (0, 0, 1023, 0, 0, 0, 5, false) ∷ (0, 0, 4, 0, 0, 16, 5, true) ∷ []))
    -- it comes after an event's and an interrupt's credit too
    ∷ (from (counts 1019 0) (interrupt 1001 7 ∷ []), lines ((0, 0, 0, 0, 0, 16, 5, true) ∷ []))
    ∷ (from (came 3 3 (counts 1019 0)) (event 3 2 0 ∷ []), lines ((0, 0, 0, 0, 0, 16, 5, true) ∷ []))
    -- .. and its clock is that call's: after each, with credit enough, a reseed is due past 300,000 ticks and not at them
    ∷ (from (counts 1019 0) (interrupt 1001 7 ∷ bits 4096 ∷ read 301001 1 ∷ read 301002 1 ∷ []), lines ((0, 0, 0, 0, 0, 16, 5, true) ∷ (0, 0, 19968, 0, 0, 0, 19968, true) ∷ (0, 1, 19968, 0, 1, 0, 0, true) ∷ (0, 1, 17920, 0, 1, 32, 0, true) ∷ []))
    ∷ (from (came 3 3 (counts 1019 0)) (event 3 2 0 ∷ bits 4096 ∷ read 300002 1 ∷ read 300003 1 ∷ []), lines ((0, 0, 0, 0, 0, 16, 5, true) ∷ (0, 0, 19968, 0, 0, 0, 19968, true) ∷ (0, 1, 19968, 0, 1, 0, 0, true) ∷ (0, 1, 17920, 0, 1, 32, 0, true) ∷ []))
    -- an unseeded count above 1,024 waits for a credit above 0: a write, a seed of 0 bits, a credit of 1
    ∷ (from (came 3 3 (counts 2000 0)) (write 64 ∷ bits 0 ∷ event 3 1 0 ∷ bits 1 ∷ []), lines ((0, 0, 2000, 0, 0, 0, 0, false) ∷ (0, 0, 2000, 0, 0, 0, 0, false) ∷ (0, 0, 2000, 0, 0, 0, 0, false) ∷ (0, 0, 21, 0, 0, 32, 5, true) ∷ []))
    -- blocking reads at the thresholds: 63 and 511 are refused; 512 of input or 64 of blocking give a byte or more
    ∷ (from (counts 511 63) (blocking_read 1 ∷ []), lines ((1, 0, 511, 63, 0, 0, 0, false) ∷ []))
    ∷ (from (counts 512 0) (blocking_read 1 ∷ []), lines ((0, 1, 0, 320, 0, 10, 384, false) ∷ []))
    ∷ (from (counts 0 64) (blocking_read 1 ∷ []), lines ((0, 1, 0, 0, 0, 2, 0, false) ∷ []))
    -- the least that is brought over is 8: with 511 units of input a read of 2 gets the one byte that the blocking pool has
    ∷ (from (counts 511 64) (blocking_read 2 ∷ []), lines ((0, 1, 511, 0, 0, 2, 0, false) ∷ []))
    -- a blocking read brings over 128 bytes at most, and none where the blocking pool has enough
    ∷ (from (counts 32768 0) (blocking_read 4096 ∷ []), lines ((0, 78, 24576, 0, 0, 120, 4992, false) ∷ []))
    ∷ (from (counts 32768 640) (blocking_read 10 ∷ []), lines ((0, 10, 32768, 0, 0, 2, 0, false) ∷ []))
    -- a fresh ledger is all zero
    ∷ (given (numbers (fresh_ledger.input.count ∷ fresh_ledger.blocking.count ∷ fresh_ledger.value ∷ fresh_ledger.spill.tally ∷ fresh_ledger.spill.clock ∷ fresh_ledger.seeding.mark ∷ fresh_ledger.seeding.clock ∷ spots blank)), numbers (replicate 11 0))
    -- the position falls by one a byte and the rotation grows by 7, or by 14 at position 0: after 1, 127, 128 and 129 bytes
    ∷ (spots_after blank (write 1 ∷ []), numbers (127 ∷ 7 ∷ 0 ∷ 0 ∷ []))
    ∷ (spots_after blank (write 127 ∷ []), numbers (1 ∷ 25 ∷ 0 ∷ 0 ∷ []))
    ∷ (spots_after blank (write 128 ∷ []), numbers (0 ∷ 7 ∷ 0 ∷ 0 ∷ []))
    ∷ (spots_after blank (write 129 ∷ []), numbers (127 ∷ 14 ∷ 0 ∷ 0 ∷ []))
    -- .. and by 20 bytes for each extraction block: 128 bytes come over in 13 blocks and go into the blocking pool, 78 go out in 8
    ∷ (spots_after (counts 32768 0) (blocking_read 4096 ∷ []), numbers (124 ∷ 10 ∷ 0 ∷ 31 ∷ []))
    -- numbers 1 and 2, and lengths of 0, which are answered 0 even unseeded
    ∷ (each blank (blocking_read 1 ∷ read 0 1 ∷ blocking_read 0 ∷ read 0 0 ∷ write 0 ∷ bits 0 ∷ []), numbers (1 ∷ 2 ∷ 0 ∷ 0 ∷ 0 ∷ 0 ∷ []))
    -- a seeded mark of 1 opens the generator, and no other number does
    ∷ (at_each (seeded_mark 0 ∷ seeded_mark 1 ∷ seeded_mark 2 ∷ seeded_mark 256 ∷ []) (read 0 1), numbers (2 ∷ 0 ∷ 2 ∷ 2 ∷ []))
    -- number 3: past 4,096 and not at it; it is tested before 5, 1 and 2
    ∷ (each blank (write 4097 ∷ seed 0 4097 0 ∷ read 0 4097 ∷ blocking_read 4097 ∷ seed 0 4097 40000 ∷ []), numbers (3 ∷ 3 ∷ 3 ∷ 3 ∷ 3 ∷ []))
    ∷ (each blank (write 4096 ∷ seed 0 4096 0 ∷ read 0 4096 ∷ blocking_read 4096 ∷ []), numbers (0 ∷ 0 ∷ 2 ∷ 1 ∷ []))
    -- number 4: past 1,023, tested before 7; number 5: above 8 bits a byte
    ∷ (each blank (event 1024 5 0 ∷ event 1023 5 0 ∷ event 65535 5 0 ∷ event 16 5 0 ∷ seed 0 1 9 ∷ seed 0 1 8 ∷ seed 0 0 1 ∷ []), numbers (4 ∷ 0 ∷ 4 ∷ 0 ∷ 5 ∷ 0 ∷ 5 ∷ []))
    -- number 7: on device 0 alone, where fresh keeps 0; the last value that was kept counts
    ∷ (fresh (event 0 5 0 ∷ event 1 0 0 ∷ event 0 0 9 ∷ event 0 1 9 ∷ event 0 0 0 ∷ []), lines ((7, 0, 0, 0, 0, 0, 0, false) ∷ (0, 0, 0, 0, 0, 0, 0, false) ∷ (0, 0, 0, 0, 0, 0, 0, false) ∷ (7, 0, 0, 0, 0, 0, 0, false) ∷ (0, 0, 0, 0, 0, 0, 0, false) ∷ []))
    -- .. and the value of another device does not
    ∷ (fresh (event 1 0 9 ∷ event 0 0 9 ∷ event 0 0 9 ∷ []), lines ((0, 0, 0, 0, 0, 0, 0, false) ∷ (0, 0, 0, 0, 0, 0, 0, false) ∷ (7, 0, 0, 0, 0, 0, 0, false) ∷ []))
    -- number 17 is tested first in every call
    ∷ (each (counts 32769 0) (event 1024 0 0 ∷ event 0 0 0 ∷ interrupt 0 0 ∷ write 4097 ∷ seed 0 1 9 ∷ read 0 0 ∷ read 0 1 ∷ blocking_read 0 ∷ blocking_read 1 ∷ []), numbers (17 ∷ 17 ∷ 17 ∷ 17 ∷ 17 ∷ 17 ∷ 17 ∷ 17 ∷ 17 ∷ []))
    -- in range: every limit at once, d1 and d2 at both ends
    ∷ (at_each (but 32768 8192 (spot 127 31) (spot 31 31) 63 (pos 2147483647) (pos 4294967295) fixed_words ∷ but 32768 8192 (spot 127 31) (spot 31 31) 63 (negsuc 2147483647) (negsuc 4294967294) fixed_words ∷ []) (read 0 0), numbers (0 ∷ 0 ∷ []))
    -- out of range, one thing at a time: a count, a position, a rotation, the tally
    ∷ (at_each (counts 32769 0 ∷ counts 0 8193 ∷ but 0 0 (spot 128 0) (spot 0 0) 0 (pos 0) (pos 0) fixed_words ∷ but 0 0 (spot 0 0) (spot 32 0) 0 (pos 0) (pos 0) fixed_words ∷ but 0 0 (spot 0 32) (spot 0 0) 0 (pos 0) (pos 0) fixed_words ∷ but 0 0 (spot 0 0) (spot 0 32) 0 (pos 0) (pos 0) fixed_words ∷ but 0 0 (spot 0 0) (spot 0 0) 64 (pos 0) (pos 0) fixed_words ∷ []) (read 0 0), numbers (17 ∷ 17 ∷ 17 ∷ 17 ∷ 17 ∷ 17 ∷ 17 ∷ []))
    -- three events that came are in range, on one device and on another, and four are not, nor are more
    ∷ (at_each (came 3 0 blank ∷ came 3 15 blank ∷ came 4 0 blank ∷ came 4 15 blank ∷ came 255 7 blank ∷ []) (read 0 0), numbers (0 ∷ 0 ∷ 17 ∷ 17 ∷ 17 ∷ []))
    ∷ (each (came 4 15 blank) (event 15 0 0 ∷ event 1 0 0 ∷ interrupt 0 0 ∷ write 0 ∷ seed 0 0 0 ∷ read 0 0 ∷ blocking_read 0 ∷ []), numbers (17 ∷ 17 ∷ 17 ∷ 17 ∷ 17 ∷ 17 ∷ 17 ∷ []))
    -- d1 and d2 past each end, a fixed word
    ∷ (at_each (but 0 0 (spot 0 0) (spot 0 0) 0 (pos 2147483648) (pos 0) fixed_words ∷ but 0 0 (spot 0 0) (spot 0 0) 0 (negsuc 2147483648) (pos 0) fixed_words ∷ but 0 0 (spot 0 0) (spot 0 0) 0 (pos 0) (pos 4294967296) fixed_words ∷ but 0 0 (spot 0 0) (spot 0 0) 0 (pos 0) (negsuc 4294967295) fixed_words ∷ but 0 0 (spot 0 0) (spot 0 0) 0 (pos 0) (pos 0) (set fixed_words 3 0) ∷ []) (read 0 0), numbers (17 ∷ 17 ∷ 17 ∷ 17 ∷ 17 ∷ []))
    ∷ []

-- ---- what was computed
-- a question whose tables have few timers, and whose calls name devices that these have, or that no keeper has
abbrev has_rows : Timers → Bool
has_rows ts = eqb (length ts.clocks) few && (eqb (length ts.firsts) few && (eqb (length ts.seconds) few && eqb (length ts.came) few))

unfoldable fits : Question → Bool
fits (given s) = true
fits (from v cs) = has_rows v.timers && every (held few) cs
fits (each v cs) = true
fits (at_each vs c) = true
fits (reseeds v c) = true
fits (spots_after v cs) = has_rows v.timers && every (held few) cs
fits (timer_after d v cs) = has_rows v.timers && every (held few) cs
fits (came_after ds v cs) = has_rows v.timers && every (held few) cs

abbrev questions : List Question
questions = map (λ (row : Question × Side). row.0) table

abbrev answers : List Side
answers = map (λ (row : Question × Side). row.1) table

all_fit : every fits questions ≡ true
unfolding fits pick signed log2 estimate event_bits further credited further_adds credit_adds taken ledger_in_range others_in_range moved moved_blocks extracted_from costs first_seeding feed plan_event plan_interrupt plan_write plan_seed plan_read plan_blocking_read plan_call decide input_moved blocking_moved planned step_view view_after
all_fit = refl

computed : map (answered (λ v. v)) questions ≡ answers
unfolding answered pick signed log2 estimate event_bits further credited further_adds credit_adds taken ledger_in_range others_in_range moved moved_blocks extracted_from costs first_seeding feed plan_event plan_interrupt plan_write plan_seed plan_read plan_blocking_read plan_call decide input_moved blocking_moved planned step_view view_after lines_from
computed = refl

-- ---- what was computed holds of longer tables
rows : (ts : Timers) → has_rows ts ≡ true → Rows few ts
rows ts h =
    let a = eqb (length ts.clocks) few in
    let b = eqb (length ts.firsts) few in
    let c = eqb (length ts.seconds) few in
    let d = eqb (length ts.came) few in
    let bcd = and_right a (b && (c && d)) h in
    let cd = and_right b (c && d) bcd in
    record { clocks = eqb-true _ _ (and_left a (b && (c && d)) h); firsts = eqb-true _ _ (and_left b (c && d) bcd); seconds = eqb-true _ _ (and_left c d cd); came = eqb-true _ _ (and_right c d cd) }

lines_more : (k : ℕ) (v : View) (cs : List PublicCall) → every (held few) cs ≡ true → Rows few v.timers → lines_from (with_more k v) cs ≡ lines_from v cs
unfolding lines_from
lines_more k v [] h r = refl
lines_more k v (c ∷ cs) h r =
    let on = lines_more k (step_view v c).view cs (and_right (held few c) (every (held few) cs) h) (step_rows few v c r) in
    rw (step-more few k v c (and_left (held few c) (every (held few) cs) h) r, on) refl

answer_same : (k : ℕ) (v : View) (c : PublicCall) → (step_view (with_more k v) c).answer ≡ (step_view v c).answer
unfolding step_view planned
answer_same k v c = rw (plan_more k v c)

each_more : (k : ℕ) (v : View) (cs : List PublicCall) → map (λ c. (step_view (with_more k v) c).answer.number) cs ≡ map (λ c. (step_view v c).answer.number) cs
each_more k v [] = refl
each_more k v (c ∷ cs) = rw (answer_same k v c, each_more k v cs) refl

at-each_more : (k : ℕ) (vs : List View) (c : PublicCall) → map (λ v. (step_view (with_more k v) c).answer.number) vs ≡ map (λ v. (step_view v c).answer.number) vs
at-each_more k [] c = refl
at-each_more k (v ∷ vs) c = rw (answer_same k v c, at-each_more k vs c) refl

came_more : (k : ℕ) (ts : Timers) (ds : List ℕ) → map (λ d. (timer_of (more k ts) d).came) ds ≡ map (λ d. (timer_of ts d).came) ds
came_more k ts [] = refl
came_more k ts (d ∷ ds) = ap₂ (λ (n : ℕ) (ns : List ℕ). n ∷ ns) (ap (λ (t : Timer). t.came) (timer_more k ts d)) (came_more k ts ds)

after : (k : ℕ) (v : View) (cs : List PublicCall) → (has_rows v.timers && every (held few) cs) ≡ true → view_after (with_more k v) cs ≡ with_more k (view_after v cs)
after k v cs h = view_more few k v cs (and_right (has_rows v.timers) (every (held few) cs) h) (rows v.timers (and_left (has_rows v.timers) (every (held few) cs) h))

-- a question that fits has the same answer whatever the number of further devices
answer_more : (k : ℕ) (q : Question) → fits q ≡ true → answered (with_more k) q ≡ answered (λ v. v) q
unfolding answered fits
answer_more k (given s) h = refl
answer_more k (from v cs) h = ap lines (lines_more k v cs (and_right (has_rows v.timers) (every (held few) cs) h) (rows v.timers (and_left (has_rows v.timers) (every (held few) cs) h)))
answer_more k (each v cs) h = ap numbers (each_more k v cs)
answer_more k (at_each vs c) h = ap numbers (at-each_more k vs c)
answer_more k (reseeds v c) h = rw (plan_more k v c)
answer_more k (spots_after v cs) h = ap (λ (x : View). numbers (spots x)) (after k v cs h)
answer_more k (timer_after d v cs) h = ap timer (ap (λ (x : View). timer_of x.timers d) (after k v cs h) ∙ timer_more k (view_after v cs).timers d)
answer_more k (came_after ds v cs) h = ap numbers (ap (λ (x : View). map (λ d. (timer_of x.timers d).came) ds) (after k v cs h) ∙ came_more k (view_after v cs).timers ds)

all_more : (k : ℕ) (qs : List Question) → every fits qs ≡ true → map (answered (with_more k)) qs ≡ map (answered (λ v. v)) qs
all_more k [] h = refl
all_more k (q ∷ qs) h = rw (answer_more k q (and_left (fits q) (every fits qs) h), all_more k qs (and_right (fits q) (every fits qs) h)) refl

-- THE TABLE: in every row, what the definitions give is what it has to be, whatever the number of further devices
pub marked : (k : ℕ) → map (answered (with_more k)) (map (λ (row : Question × Side). row.0) table) ≡ map (λ (row : Question × Side). row.1) table
marked k = all_more k questions all_fit ∙ computed

-- with as many as make up all of the keeper's, the rows that begin at a fresh view begin at the keeper's own
pub fresh_all : with_more (devices - few) blank ≡ fresh_view
fresh_all = fresh-more few (devices - few)
