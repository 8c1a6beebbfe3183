-- The work of a desk call is that of the generator reads that it made, and the keeper is what these reads left: none where it is refused with 17
-- or 13, else those thrown away and one more, at most four.
use mathlib.Core.Path.{◌≡◌, refl, sym, ◌∙◌}
use mathlib.Core.Bool.{false}
use mathlib.Core.List.{List}
use Prim.Native.Nat.{ℕ, zero, suc, ◌+◌, min, ◌≤◌}
use native.Mathlib.Omega.{arith}
use native.Mathlib.Nat.{zero-add, add-zero, add_assoc}
use borrow.Author.Tests.{eq-eqb, ne_eqb}
use Rattle.ledger.proofs.Picks.{pick_both}
use Rattle.keeper.specs.Demands.{outcomes, keeper_after}
use Rattle.keeper.specs.declared.Keeper.{Keeper}
use Rattle.desk.specs.Issuing.{LeftWith, left_with, Spent, nothing_yet, spending, none, draw, drawing, class_of, issue}
use Rattle.desk.specs.Repeats.{thrown_away, draws, draws_made, reads, work_of}
use Rattle.desk.specs.declared.Desk.{Desk}
use Rattle.desk.proofs.Draws.{drawing_by, issue_by}
use Rattle.desk.proofs.DeskShadow.{chosen, passed}

-- so many reads, after work done before: the keeper that they left, and the work
record ByReads (n now : ℕ) (s : Spent) (k : Keeper) (x : LeftWith) : Type 0 where
  keeper : x.keeper ≡ keeper_after k (reads n now)
  blocks : x.issued.answer.blocks ≡ s.blocks + (work_of (outcomes k (reads n now))).blocks
  compressions : x.issued.answer.compressions ≡ s.compressions + (work_of (outcomes k (reads n now))).compressions

-- no read
no_read : (now : ℕ) (s : Spent) (k : Keeper) (d : Desk) (why : ℕ) → ByReads 0 now s k (left_with k d (none why s))
unfolding keeper_after outcomes work_of
no_read now s k d why = record { keeper = refl; blocks = sym (add-zero s.blocks); compressions = sym (add-zero s.compressions) }

-- one read
one_read : (now : ℕ) (s : Spent) (k : Keeper) (x : LeftWith) → x.keeper ≡ (draw now k).keeper
    → x.issued.answer.blocks ≡ s.blocks + (draw now k).answer.blocks → x.issued.answer.compressions ≡ s.compressions + (draw now k).answer.compressions → ByReads 1 now s k x
unfolding keeper_after outcomes work_of
one_read now s k x ek eb ec = record { keeper = ek; blocks = eb ∙ omega arith; compressions = ec ∙ omega arith }

-- one read more, first
first_read : (n now : ℕ) (s : Spent) (k : Keeper) (x : LeftWith) → ByReads n now (spending s (draw now k).answer) (draw now k).keeper x → ByReads (suc n) now s k x
unfolding keeper_after outcomes work_of
first_read n now s k x b = record { keeper = b.keeper; blocks = b.blocks ∙ add_assoc s.blocks _ _; compressions = b.compressions ∙ add_assoc s.compressions _ _ }

at_reads : (m n now : ℕ) (s : Spent) (k : Keeper) (x : LeftWith) → m ≡ n → ByReads n now s k x → ByReads m now s k x
at_reads m n now s k x e b = rw e b

draws_by_reads : (n class now : ℕ) (d : Desk) (s : Spent) (k : Keeper) → ByReads (min n (suc (thrown_away n class now d k))) now s k (drawing n class now d s k)
unfolding drawing thrown_away
draws_by_reads zero class now d s k = no_read now s k d 14
draws_by_reads (suc n) class now d s k =
    let o = draw now k in
    drawing_by (λ r x. ByReads (min (suc n) (suc r)) now s k x) n class now d s k
    (λ z t. at_reads _ _ now s k _ (let e : min (suc n) (suc (suc (thrown_away n class now d o.keeper))) ≡ suc (min n (suc (thrown_away n class now d o.keeper))) = omega arith in e)
    (first_read _ now s k _ (draws_by_reads n class now d (spending s o.answer) o.keeper)))
    (λ z f. at_reads _ 1 now s k _ (let e : min (suc n) 1 ≡ 1 = omega arith in e) (one_read now s k _ refl refl refl))
    (λ refuses. at_reads _ 1 now s k _ (let e : min (suc n) 1 ≡ 1 = omega arith in e) (one_read now s k _ refl refl refl))

-- a call that draws nothing
none_made : (k : Keeper) (d : Desk) (now : ℕ) (field : List ℕ) (why : ℕ) → draws k d field ≡ false → ByReads (draws_made k d now field) now nothing_yet k (left_with k d (none why nothing_yet))
none_made k d now field why h = at_reads _ 0 now nothing_yet k _ (passed (draws k d field) _ _ h) (no_read now nothing_yet k d why)

-- the whole call, after no work
call_by_reads : (k : Keeper) (d : Desk) (now : ℕ) (field : List ℕ) → ByReads (draws_made k d now field) now nothing_yet k (issue k d now field)
call_by_reads k d now field =
    let made = draws_made k d now field in
    issue_by (λ r x. ByReads made now nothing_yet k x) k d now field
    (λ f. none_made k d now field 17 (rw f refl))
    (λ f z. none_made k d now field 13 (rw (f, eq-eqb (class_of field) 0 z) refl))
    (λ f c. at_reads made _ now nothing_yet k _ (chosen (draws k d field) _ _ (rw (f, ne_eqb (class_of field) 0 c) refl)) (draws_by_reads 4 (class_of field) now d nothing_yet k))

-- WORK: the record is what the reads that were made left, and the work is theirs, all of it
pub by_reads : (k : Keeper) (d : Desk) (now : ℕ) (field : List ℕ) → let x = issue k d now field in
    let made = reads (draws_made k d now field) now in
    (x.keeper ≡ keeper_after k made) × (x.issued.answer.blocks ≡ (work_of (outcomes k made)).blocks) × (x.issued.answer.compressions ≡ (work_of (outcomes k made)).compressions)
by_reads k d now field = let b = call_by_reads k d now field in (b.keeper, b.blocks ∙ zero-add _, b.compressions ∙ zero-add _)

-- at most four
pub four_at_most : (k : Keeper) (d : Desk) (now : ℕ) (field : List ℕ) → draws_made k d now field ≤ 4
four_at_most k d now field = pick_both (λ (n : ℕ). n ≤ 4) (draws k d field) (omega arith) (omega arith)
