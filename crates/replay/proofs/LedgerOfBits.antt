-- The ledger of bits, of journals: the sums are those of what a reader reads in the lines of the transcript, up to any line.
use mathlib.Core.Path.{◌≡◌, refl, sym, ap}
use mathlib.Core.List.{List, [], ◌∷◌, map}
use Prim.Native.Nat.{ℕ}
use native.Mathlib.Omega.{arith}
use lib.ListN.{length, take}
use lib.Seq.{take-nil}
use Rattle.ledger.specs.LedgerOfBits.{summed}
use Rattle.ledger.specs.Awards.{awards_from}
use Rattle.ledger.specs.declared.Answer.{Answer}
use Rattle.journal.specs.Header.{header_of, start_of}
use Rattle.journal.proofs.Laws.{start_48}
use Rattle.journal.proofs.Sides.{by_same}
use Rattle.journal.proofs.Walks.{bad_walk}
use Rattle.transcript.specs.Columns.{rows_in}
use Rattle.keeper.specs.Record.{Outcome, fresh}
use Rattle.keeper.specs.Calls.{Call}
use Rattle.keeper.specs.Narrative.{told}
use Rattle.keeper.specs.Taken.{taken_over}
use Rattle.keeper.specs.Demands.{outcomes, keeper_after}
use Rattle.keeper.specs.declared.Keeper.{Keeper}
use Rattle.keeper.proofs.LedgerOfBits as Told
use Rattle.replay.specs.Whole.{calls_of, outcomes_of, transcript_of}
use Rattle.replay.specs.Columns.{row_for}
use Rattle.replay.specs.LedgerOfBits.{answer_in, last_at, BooksRead}
use Rattle.replay.proofs.CutShort.{first_outcomes, map-take}
use Rattle.replay.proofs.Columns.{rows_read}

-- ---- what their rows tell
answers_told : (os : List Outcome) → map answer_in (map row_for os) ≡ map (λ (o : Outcome). o.answer) os
unfolding row_for
answers_told [] = refl
answers_told (o ∷ os) = ap (λ (l : List Answer). o.answer ∷ l) (answers_told os)

input_told : (k : Keeper) (cs : List Call) → last_at 2 k.ledger.input.count (map row_for (outcomes k cs)) ≡ (keeper_after k cs).ledger.input.count
unfolding outcomes keeper_after last_at row_for
input_told k [] = refl
input_told k (c ∷ cs) = input_told (told k c).keeper cs

blocking_told : (k : Keeper) (cs : List Call) → last_at 3 k.ledger.blocking.count (map row_for (outcomes k cs)) ≡ (keeper_after k cs).ledger.blocking.count
unfolding outcomes keeper_after last_at row_for
blocking_told k [] = refl
blocking_told k (c ∷ cs) = blocking_told (told k c).keeper cs

-- ---- by the rows
by_rows : (start : List ℕ) (cs : List Call) → length start ≡ 48 → BooksRead start cs (map row_for (outcomes (fresh start) cs))
by_rows start cs h = rw (answers_told (outcomes (fresh start) cs), input_told (fresh start) cs, blocking_told (fresh start) cs) (Told.books start cs h)

-- behind a header that is not good there are no calls, and nothing is summed
no_calls : (start : List ℕ) → BooksRead start [] []
unfolding summed awards_from taken_over last_at
no_calls start = record { ledger = omega arith; input = omega arith; blocking = omega arith; damped = omega arith; passed = omega arith }

-- THE BOOKS of every journal, after each of its lines: after the first n of them, whatever n
pub books : (j : List ℕ) (n : ℕ) → BooksRead (start_of j) (take n (calls_of j)) (take n (rows_in (transcript_of j)))
unfolding outcomes
books j n =
    rw (rows_read j, sym (map-take row_for n (outcomes_of j)), sym (first_outcomes (fresh (start_of j)) n (calls_of j)))
    (by_same (header_of j).number 0
    (λ h. by_rows (start_of j) (take n (calls_of j)) (start_48 j h))
    (λ h. rw (bad_walk j h, take-nil {A = Call} n) (no_calls (start_of j))))
