-- Awards that the checker computes from the calls alone, one after another: calls of each kind, refused ones among them, with what each awards
-- beside it, worked out by hand from the paper.
use mathlib.Core.Path.{◌≡◌, refl}
use mathlib.Core.List.{List, [], ◌∷◌, ◌++◌}
use Prim.Native.Nat.{ℕ}
use lib.ListN.{replicate}
use Rattle.ledger.specs.Choice.{pick}
use Rattle.ledger.specs.Clocks.{signed, log2, estimate}
use Rattle.ledger.specs.PublicCalls.{PublicCall, event, interrupt, write, seed, read, blocking_read}
use Rattle.ledger.specs.Earned.{last_value, kept_clocks, earned}
use Rattle.ledger.specs.Awards.{interrupt_clocks, spill_by, award, awards_from}

-- a call and its award
record Case : Type 0 where
  call : PublicCall
  bits : ℕ

infixl 20 ◌gives◌
abbrev ◌gives◌ : PublicCall → ℕ → Case
c gives n = record { call = c; bits = n }

abbrev calls : List Case → List PublicCall
calls [] = []
calls (x ∷ xs) = x.call ∷ calls xs

abbrev bits : List Case → List ℕ
bits [] = []
bits (x ∷ xs) = x.bits ∷ bits xs

-- device 0: the value 0 repeats even before any event; an event that repeats is no event of the device's. The fourth kept one has differences
-- 6,000, 4,100 and 3,200, the fifth 5,000, 1,000 and 5,100; one in between on another device or on none has no say
abbrev events : List Case
events =
    (event 0 50 0 gives 0) ∷ (event 0 100 5 gives 0) ∷ (event 0 150 5 gives 0) ∷ (event 0 1100 6 gives 0) ∷ (event 3 2000 6 gives 0)
    ∷ (event 0 3000 7 gives 0) ∷ (event 1024 4000 8 gives 0) ∷ (event 0 9000 8 gives 11) ∷ (event 0 9500 8 gives 0) ∷ (event 0 14000 9 gives 9) ∷ []

-- interrupts: one spills that comes more than 1,000 after clock 0; then not at 1,000 after it, but at 1,001; and then the 64th in a row
abbrev interrupts : List Case
interrupts =
    (interrupt 1000 1 gives 0) ∷ (interrupt 1001 1 gives 1) ∷ (interrupt 2001 1 gives 0) ∷ (interrupt 2002 1 gives 1)
    ∷ (replicate 63 (interrupt 2002 1 gives 0) ++ ((interrupt 2002 1 gives 1) ∷ (interrupt 2002 1 gives 0) ∷ []))

-- seeds: the named bits, where they are no more than eight a byte and the bytes no more than 4,096; and what is not credited
abbrev others : List Case
others =
    (seed 0 16 128 gives 128) ∷ (seed 0 16 129 gives 0) ∷ (seed 0 4096 32768 gives 32768) ∷ (seed 0 4097 1 gives 0) ∷ (seed 0 0 0 gives 0)
    ∷ (write 16 gives 0) ∷ (read 0 16 gives 0) ∷ (blocking_read 16 gives 0) ∷ []

abbrev all : List Case
all = events ++ (interrupts ++ others)

pub awards_compute : awards_from [] (calls all) ≡ bits all
unfolding awards_from award earned kept_clocks last_value interrupt_clocks spill_by signed log2 estimate pick
awards_compute = refl
