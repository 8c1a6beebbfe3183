-- The rows: what a reader of any journal's transcript reads in its text is the numbers of what came of its calls.
use mathlib.Core.Path.{◌≡◌, refl, sym, ap, ap₂, ◌∙◌, subst}
use mathlib.Core.List.{List, [], ◌∷◌, ◌++◌, map, append_assoc}
use Prim.Native.Nat.{ℕ}
use native.Mathlib.Omega.{arith}
use Rattle.journal.specs.Header.{header_of, start_of}
use Rattle.journal.specs.Walking.{ending_of}
use Rattle.journal.proofs.Laws.{start_48}
use Rattle.journal.proofs.Sides.{by_same}
use Rattle.journal.proofs.Walks.{bad_walk}
use Rattle.transcript.specs.Lines.{end_of}
use Rattle.transcript.specs.Columns.{row_in, rows_in}
use Rattle.transcript.proofs.Columns.{unended, TenDigits, line_read, Listed, end_listed, line_listed, listed}
use Rattle.keeper.specs.Record.{Outcome}
use Rattle.keeper.specs.Demands.{outcomes}
use Rattle.keeper.proofs.SmallOutcomes.{SmallOutcome, AllSmall, no_call, a_call, all_small}
use Rattle.replay.specs.Running.{line_for}
use Rattle.replay.specs.Whole.{calls_of, outcomes_of, lines_of, transcript_of}
use Rattle.replay.specs.Columns.{row_for}

-- ---- the lines
-- an outcome's, without its newline
abbrev unended_for : Outcome → List ℕ
unended_for o = unended o.answer o.keeper.ledger.input.count o.keeper.ledger.blocking.count o.bytes

one_listed : (o : Outcome) {t : List ℕ} {lines : List (List ℕ)} → Listed t lines → Listed (line_for o ++ t) (unended_for o ∷ lines)
unfolding line_for
one_listed o l = line_listed o.answer o.keeper.ledger.input.count o.keeper.ledger.blocking.count o.bytes l

-- a reader finds one for each outcome
all_listed : (os : List Outcome) (n : ℕ) → Listed (lines_of os ++ end_of n) (map unended_for os)
unfolding lines_of
all_listed [] n = end_listed n
all_listed (o ∷ os) n =
    subst (λ (t : List ℕ). Listed t (map unended_for (o ∷ os))) (sym (append_assoc (line_for o) (lines_of os) (end_of n))) (one_listed o (all_listed os n))

-- ---- their numbers
few_digits : (o : Outcome) → SmallOutcome o → TenDigits o.answer o.keeper.ledger.input.count o.keeper.ledger.blocking.count
few_digits o s = omega (arith, s)

row_read : (o : Outcome) → SmallOutcome o → row_in (unended_for o) ≡ row_for o
unfolding row_for
row_read o s = line_read o.answer _ _ o.bytes (few_digits o s)

all_read : (os : List Outcome) → AllSmall os → map row_in (map unended_for os) ≡ map row_for os
all_read [] no_call = refl
all_read (o ∷ os) (a_call s ss) = ap₂ ◌∷◌ (row_read o s) (all_read os ss)

lines_read : (os : List Outcome) (n : ℕ) → AllSmall os → rows_in (lines_of os ++ end_of n) ≡ map row_for os
unfolding rows_in
lines_read os n ss = ap (map row_in) (listed (all_listed os n)) ∙ all_read os ss

-- ---- a good header has 48 start bytes; behind any other there are no calls
journal_small : (j : List ℕ) → AllSmall (outcomes_of j)
unfolding outcomes
journal_small j =
    by_same (header_of j).number 0
    (λ h. all_small (start_of j) (start_48 j h) (calls_of j))
    (λ h. rw (bad_walk j h) no_call)

-- THE ROWS of every journal
pub rows_read : (j : List ℕ) → rows_in (transcript_of j) ≡ map row_for (outcomes_of j)
unfolding transcript_of
rows_read j = lines_read (outcomes_of j) (ending_of j) (journal_small j)
