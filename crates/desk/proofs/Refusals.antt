-- Refusals of a desk call, in their order; what each of them leaves; and that 14 alone changes anything. A refusal hands back 16 zero bytes.
use mathlib.Core.Path.{◌≡◌, refl, sym, ap, ◌∙◌}
use mathlib.Core.Bool.{true, false, ◌&&◌}
use mathlib.Core.List.{List, [], ◌∷◌}
use Prim.Native.Nat.{ℕ, zero, suc, ◌+◌}
use native.Mathlib.Omega.{arith}
use native.Mathlib.Nat.{zero-add, add-zero, add_assoc}
use lib.Dec.{eqb}
use lib.ListN.{replicate}
use borrow.Author.Tests.{eq-eqb, ne_eqb}
use Rattle.ledger.specs.Machine.{Shown}
use Rattle.ledger.proofs.Picks.{pick_both}
use Rattle.keeper.specs.Record.{Outcome, fine, view}
use Rattle.keeper.specs.Narrative.{generate, read_call, act, told}
use Rattle.keeper.specs.Demands.{outcomes, keeper_after}
use Rattle.keeper.specs.declared.Keeper.{Keeper}
use Rattle.keeper.proofs.Shadow.{Whole, shadow, stays_whole}
use Rattle.keeper.proofs.Refusals.{demand_1}
use Rattle.desk.specs.Desks.{desk_in_range}
use Rattle.desk.specs.Issuing.{LeftWith, left_with, Spent, nothing_yet, spending, none, draw_call, draw, drawing, class_of, issue}
use Rattle.desk.specs.Repeats.{reads, work_of}
use Rattle.desk.specs.declared.Desk.{Desk}
use Rattle.desk.proofs.Draws.{read_15, drawing_by, issue_by}
use Rattle.desk.proofs.NewNumbers.{names_none}
use Rattle.desk.proofs.ReadAgain.{Settled, done_open, leaves_settled}
use Rattle.desk.proofs.DeskShadow.{chosen, passed, ends}

-- ---- in their order
module _ (k : Keeper) (d : Desk) (now : ℕ) (field : List ℕ) where
  -- 17: the record or the desk's count is out of range, whatever else holds
  pub out_of_range : (fine k && desk_in_range d) ≡ false → issue k d now field ≡ left_with k d (none 17 nothing_yet)
  unfolding issue
  out_of_range h = passed (fine k && desk_in_range d) _ _ h

  -- then 13: the class field is neither the one byte of drill nor the one byte of live, whatever the keeper would say
  pub no_such_class_lem : (fine k && desk_in_range d) ≡ true → (field ≡ 0x44 ∷ [] → ⊥) → (field ≡ 0x4C ∷ [] → ⊥) → issue k d now field ≡ left_with k d (none 13 nothing_yet)
  unfolding issue
  no_such_class_lem h e l = chosen (fine k && desk_in_range d) _ _ h ∙ chosen (eqb (class_of field) 0) _ _ (eq-eqb (class_of field) 0 (names_none field e l))

-- a draw that the keeper refuses changes nothing and reports no work
declined : (k : Keeper) (d : Desk) (now : ℕ) → let o = draw now k in
    (o.answer.number ≡ 0 → ⊥) → left_with o.keeper d (none o.answer.number (spending nothing_yet o.answer)) ≡ left_with k d (none o.answer.number nothing_yet)
declined k d now h =
    let o = draw now k in
    let e = demand_1 k (draw_call now) h in
    λ i. left_with (e i).keeper d (none o.answer.number (record {
      blocks = (zero-add o.answer.blocks ∙ ap (λ (x : Outcome). x.answer.blocks) e) i;
      compressions = (zero-add o.answer.compressions ∙ ap (λ (x : Outcome). x.answer.compressions) e) i;
    }))

-- then the keeper's own, as it says it
pub keeper_refuses : (k : Keeper) (d : Desk) (now : ℕ) (field : List ℕ) → (fine k && desk_in_range d) ≡ true → (class_of field ≡ 0 → ⊥)
    → ((draw now k).answer.number ≡ 0 → ⊥) → issue k d now field ≡ left_with k d (none (draw now k).answer.number nothing_yet)
unfolding issue drawing
keeper_refuses k d now field h c refuses =
    chosen (fine k && desk_in_range d) _ _ h ∙ passed (eqb (class_of field) 0) _ _ (ne_eqb (class_of field) 0 c)
    ∙ passed (eqb (draw now k).answer.number 0) _ _ (ne_eqb (draw now k).answer.number 0 refuses) ∙ declined k d now refuses

-- ---- what a refusal leaves
-- no number: the desk is as it was, 16 zero bytes are handed back, and nothing is delivered
pub record NoNumber (d : Desk) (x : LeftWith) : Type 0 where
  pub desk : x.desk ≡ d
  pub zeros : x.issued.number ≡ replicate 16 0
  pub delivered : x.issued.answer.delivered ≡ 0

record IfRefused (d : Desk) (x : LeftWith) : Type 0 where
  so : (x.issued.answer.number ≡ 0 → ⊥) → NoNumber d x

nothing-handed : {d : Desk} {x : LeftWith} → NoNumber d x → IfRefused d x
nothing-handed n = record { so = λ e. n }

draws-nothing : (n class now : ℕ) (d : Desk) (s : Spent) (k : Keeper) → IfRefused d (drawing n class now d s k)
unfolding drawing
draws-nothing zero class now d s k = nothing-handed (record { desk = refl; zeros = refl; delivered = refl })
draws-nothing (suc n) class now d s k =
    drawing_by (λ r. IfRefused d) n class now d s k
    (λ z t. draws-nothing n class now d (spending s (draw now k).answer) (draw now k).keeper)
    (λ z f. record { so = λ e. absurd (e refl) })
    (λ refuses. nothing-handed (record { desk = refl; zeros = refl; delivered = refl }))

pub no_number : (k : Keeper) (d : Desk) (now : ℕ) (field : List ℕ) → ((issue k d now field).issued.answer.number ≡ 0 → ⊥) → NoNumber d (issue k d now field)
no_number k d now field =
    (issue_by (λ r. IfRefused d) k d now field
    (λ f. nothing-handed (record { desk = refl; zeros = refl; delivered = refl }))
    (λ f c. nothing-handed (record { desk = refl; zeros = refl; delivered = refl }))
    (λ f c. draws-nothing 4 (class_of field) now d nothing_yet k)).so

-- ---- 14 alone changes anything
record Unchanged (k : Keeper) (d : Desk) (x : LeftWith) : Type 0 where
  so : (x.issued.answer.number ≡ 0 → ⊥) → (x.issued.answer.number ≡ 14 → ⊥) → x ≡ left_with k d (none x.issued.answer.number nothing_yet)

draws_unchanged : (n class now : ℕ) (d : Desk) (k : Keeper) → Whole k → Unchanged k d (drawing (suc n) class now d nothing_yet k)
draws_unchanged n class now d k w =
    let o = draw now k in
    let e = shadow k (draw_call now) w in
    drawing_by (λ r. Unchanged k d) n class now d nothing_yet k
    (λ z t. let opened = done_open now (view k) (ap (λ (x : Shown). x.answer.number) (sym e) ∙ z) in
    let settled : Settled now (view o.keeper) = rw (ap (λ (x : Shown). x.view) e) (leaves_settled now (view k) opened) in
    record { so = λ no-0 no-14. absurd (ends class now d n (spending nothing_yet o.answer) o.keeper (stays_whole k (draw_call now) w) settled no-0 no-14) })
    (λ z f. record { so = λ no-0 no-14. absurd (no-0 refl) })
    (λ refuses. record { so = λ no-0 no-14. declined k d now refuses })

-- DEMAND 1 with a desk: a desk call refused with anything but 14 leaves record and desk as they were, and reports no work
pub refusal_changes_nothing : (k : Keeper) (d : Desk) (now : ℕ) (field : List ℕ) → Whole k → let x = issue k d now field in
    (x.issued.answer.number ≡ 0 → ⊥) → (x.issued.answer.number ≡ 14 → ⊥) → x ≡ left_with k d (none x.issued.answer.number nothing_yet)
refusal_changes_nothing k d now field w =
    (issue_by (λ r. Unchanged k d) k d now field (λ f. record { so = λ no-0 no-14. refl }) (λ f c. record { so = λ no-0 no-14. refl })
    (λ f c. draws_unchanged 3 (class_of field) now d k w)).so

-- ---- what 14 changes
-- no read is answered with 14
record Not14 (o : Outcome) : Type 0 where
  other : o.answer.number ≡ 14 → ⊥

read_other : (now : ℕ) (k : Keeper) → Not14 (read_call now 15 k)
unfolding generate
read_other now k = rw (read_15 now k) (pick_both Not14 _ (record { other = λ e. omega arith }) (record { other = λ e. omega arith }))

draw_other : (now : ℕ) (k : Keeper) → Not14 (draw now k)
unfolding told act
draw_other now k = pick_both Not14 (fine k) (read_other now k) (record { other = λ e. omega arith })

-- the desk as it was, the keeper as so many reads left it, and their work, after work done before
abbrev after_reads : ℕ → ℕ → Desk → Spent → Keeper → LeftWith
after_reads n now d s k =
    let w = work_of (outcomes k (reads n now)) in
    left_with (keeper_after k (reads n now)) d (none 14 (record { blocks = s.blocks + w.blocks; compressions = s.compressions + w.compressions }))

record If14 (y : LeftWith) (x : LeftWith) : Type 0 where
  so : x.issued.answer.number ≡ 14 → x ≡ y

-- one read more, first
first_read : (n now : ℕ) (d : Desk) (s : Spent) (k : Keeper) → after_reads n now d (spending s (draw now k).answer) (draw now k).keeper ≡ after_reads (suc n) now d s k
unfolding keeper_after outcomes work_of
first_read n now d s k =
    let a = (draw now k).answer in
    let w = work_of (outcomes (draw now k).keeper (reads n now)) in
    λ i. left_with (keeper_after (draw now k).keeper (reads n now)) d
    (none 14 (record { blocks = add_assoc s.blocks a.blocks w.blocks i; compressions = add_assoc s.compressions a.compressions w.compressions i }))

draws_14 : (n class now : ℕ) (d : Desk) (s : Spent) (k : Keeper) → If14 (after_reads n now d s k) (drawing n class now d s k)
unfolding drawing keeper_after outcomes work_of
draws_14 zero class now d s k = record { so = λ e. λ i. left_with k d (none 14 (record { blocks = sym (add-zero s.blocks) i; compressions = sym (add-zero s.compressions) i })) }
draws_14 (suc n) class now d s k =
    let o = draw now k in
    drawing_by (λ r. If14 (after_reads (suc n) now d s k)) n class now d s k
    (λ z t. record { so = λ e. (draws_14 n class now d (spending s o.answer) o.keeper).so e ∙ first_read n now d s k })
    (λ z f. record { so = λ e. absurd (omega arith) })
    (λ refuses. record { so = λ e. absurd ((draw_other now k).other e) })

-- THE ONE EXCEPTION: a desk call refused with 14 leaves the desk as it was and the keeper as four reads left it, and reports their work
pub fourteen : (k : Keeper) (d : Desk) (now : ℕ) (field : List ℕ) → (issue k d now field).issued.answer.number ≡ 14
    → issue k d now field ≡ left_with (keeper_after k (reads 4 now)) d (none 14 (work_of (outcomes k (reads 4 now))))
fourteen k d now field h =
    let w = work_of (outcomes k (reads 4 now)) in
    (issue_by (λ r. If14 (after_reads 4 now d nothing_yet k)) k d now field (λ f. record { so = λ e. absurd (omega arith) }) (λ f c. record { so = λ e. absurd (omega arith) })
    (λ f c. draws_14 4 (class_of field) now d nothing_yet k)).so h
    ∙ (λ i. left_with (keeper_after k (reads 4 now)) d (none 14 (record { blocks = zero-add w.blocks i; compressions = zero-add w.compressions i })))
