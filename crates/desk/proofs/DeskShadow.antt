-- What a desk call shows is worked out from public numbers and from how many of its draws repeated, whatever the secrets are.
use mathlib.Core.Path.{◌≡◌, refl, sym, ap, ◌∙◌}
use mathlib.Core.Bool.{Bool, true, false, ◌&&◌}
use mathlib.Core.List.{List, ◌∷◌}
use Prim.Native.Nat.{ℕ, zero, suc, ◌+◌}
use native.Mathlib.Omega.{arith}
use native.Mathlib.Nat.{zero-add, add-zero}
use lib.Dec.{ltb, eqb}
use borrow.Author.Tests.{eq-eqb, ne_eqb, lt-ltb, le-ltb, ltb-true, ltb-false}
use Rattle.ledger.specs.Choice.{pick}
use Rattle.ledger.specs.Range.{View}
use Rattle.ledger.specs.PublicCalls.{read}
use Rattle.ledger.specs.Machine.{Shown, step_view}
use Rattle.keeper.specs.Record.{Outcome, view, fine}
use Rattle.keeper.specs.Demands.{shown}
use Rattle.keeper.specs.declared.Keeper.{Keeper}
use Rattle.keeper.proofs.Shadow.{Whole, shadow, stays_whole}
use Rattle.keeper.proofs.Refusals.{demand_1}
use Rattle.desk.specs.Desks.{appended, desk_in_range}
use Rattle.desk.specs.Issuing.{LeftWith, left_with, Spent, nothing_yet, spending, none, draw_call, draw, drawing, class_of, issue}
use Rattle.desk.specs.Repeats.{thrown_away, repeats}
use Rattle.desk.specs.Shown.{DeskShown, desk_shown, unmoved, draws_show, issue_shows}
use Rattle.desk.specs.declared.Desk.{Desk}
use Rattle.desk.proofs.Draws.{drawing_by, issue_by}
use Rattle.desk.proofs.ReadAgain.{Open, open_answer, done_open, Settled, one_block, settled_reads, leaves_settled}

-- ---- a choice whose test is known
pub chosen : {A : Type 0} (t : Bool) (x y : A) → t ≡ true → pick t x y ≡ x
unfolding pick
chosen t x y e = rw e refl

pub passed : {A : Type 0} (t : Bool) (x y : A) → t ≡ false → pick t x y ≡ y
unfolding pick
passed t x y e = rw e refl

-- ---- how draws end: with a number after so many blocks, or with none after so many
abbrev ending : Bool → View → ℕ → ℕ → ℕ → ℕ → DeskShown
ending t v count b b' c =
    pick t
    (record { view = v; count = pick (ltb count 64) (count + 1) count; answer = record { number = 0; delivered = 16; blocks = b; compressions = c; added = 0 } })
    (record { view = v; count = count; answer = record { number = 14; delivered = 0; blocks = b'; compressions = c; added = 0 } })

-- the count with a number more
count_of : (t : Bool) (x y : Desk) → (pick t x y).count ≡ pick t x.count y.count
unfolding pick
count_of true x y = refl
count_of false x y = refl

count_after : (n : List ℕ) (d : Desk) → (appended n d).count ≡ pick (ltb d.count 64) (d.count + 1) d.count
unfolding appended
count_after n d = count_of (ltb d.count 64) _ _

-- one more of each
both_more : (r n : ℕ) → ltb r n ≡ ltb (suc r) (suc n)
both_more r n = go (ltb r n) refl
  where
    go : (t : Bool) → ltb r n ≡ t → ltb r n ≡ ltb (suc r) (suc n)
    go true e = let h = ltb-true r n e in e ∙ sym (lt-ltb (suc r) (suc n) (omega arith))
    go false e = let h = ltb-false r n e in e ∙ sym (le-ltb (suc r) (suc n) (omega arith))

-- ---- draws after the first, at the same clock: none of them seeds
module _ (class now : ℕ) (d : Desk) where
  Later : ℕ → Spent → View → ℕ → LeftWith → Type 0
  Later n s v r x = desk_shown x ≡ ending (ltb r n) v d.count (s.blocks + suc r) (s.blocks + n) s.compressions

  later : (n : ℕ) (s : Spent) (k : Keeper) → Whole k → Settled now (view k) → Later n s (view k) (thrown_away n class now d k) (drawing n class now d s k)
  unfolding drawing thrown_away Later pick
  later zero s k w h =
      ap (λ (b : ℕ). record { view = view k; count = d.count; answer = record { number = 14; delivered = 0; blocks = b; compressions = s.compressions; added = 0 } })
      (sym (add-zero s.blocks))
  later (suc n) s k w h =
      let o = draw now k in
      let e : shown o ≡ record { view = view k; answer = one_block } = shadow k (draw_call now) w ∙ settled_reads now (view k) h in
      let v : view o.keeper ≡ view k = λ i. (e i).view in
      let b : o.answer.blocks ≡ 1 = λ i. (e i).answer.blocks in
      let c : s.compressions + o.answer.compressions ≡ s.compressions = ap (λ (m : ℕ). s.compressions + m) (λ i. (e i).answer.compressions) ∙ add-zero s.compressions in
      let r = thrown_away n class now d o.keeper in
      let more : s.blocks + o.answer.blocks + suc r ≡ s.blocks + suc (suc r) = omega arith in
      let most : s.blocks + o.answer.blocks + n ≡ s.blocks + suc n = omega arith in
      let one : s.blocks + o.answer.blocks ≡ s.blocks + 1 = ap (λ (m : ℕ). s.blocks + m) b in
      drawing_by (Later (suc n) s (view k)) n class now d s k
      (λ z t. later n (spending s o.answer) o.keeper (stays_whole k (draw_call now) w) (rw v h) ∙ (λ i. ending (both_more r n i) (v i) d.count (more i) (most i) (c i)))
      (λ z f. (λ i. record { view = v i; count = count_after (class ∷ o.bytes) d i; answer = record { number = 0; delivered = 16; blocks = one i; compressions = c i; added = 0 } })
      ∙ ap (λ (t : Bool). ending t (view k) d.count (s.blocks + 1) (s.blocks + suc n) s.compressions) (sym (lt-ltb 0 (suc n) (omega arith))))
      (λ refuses. absurd (refuses (λ i. (e i).answer.number)))

  -- so they end with 0 or with 14
  pub ends : (n : ℕ) (s : Spent) (k : Keeper) → Whole k → Settled now (view k) → let a = (drawing n class now d s k).issued.answer in
      (a.number ≡ 0 → ⊥) → (a.number ≡ 14 → ⊥) → ⊥
  unfolding Later pick
  ends n s k w h no-0 no-14 = go (ltb r n) (later n s k w h)
    where
      r : ℕ
      r = thrown_away n class now d k

      go : (t : Bool) → desk_shown (drawing n class now d s k) ≡ ending t (view k) d.count (s.blocks + suc r) (s.blocks + n) s.compressions → ⊥
      go true e = no-0 (λ i. (e i).answer.number)
      go false e = no-14 (λ i. (e i).answer.number)

  -- ---- all four of them
  First : Shown → View → ℕ → LeftWith → Type 0
  First s v r x = desk_shown x ≡ pick (eqb s.answer.number 0) (draws_show r s d.count) (unmoved s.answer.number v d.count)

  -- a keeper's refusal
  declines : (k : Keeper) → let o = draw now k in
      (o.answer.number ≡ 0 → ⊥) → desk_shown (left_with o.keeper d (none o.answer.number (spending nothing_yet o.answer))) ≡ unmoved o.answer.number (view k) d.count
  declines k h =
      let o = draw now k in
      let e = demand_1 k (draw_call now) h in
      λ i. record {
        view = view (e i).keeper;
        count = d.count;
        answer = record {
          number = o.answer.number;
          delivered = 0;
          blocks = (zero-add o.answer.blocks ∙ ap (λ (x : Outcome). x.answer.blocks) e) i;
          compressions = (zero-add o.answer.compressions ∙ ap (λ (x : Outcome). x.answer.compressions) e) i;
          added = 0;
        };
      }

  first : (k : Keeper) → Whole k → First (shown (draw now k)) (view k) (thrown_away 4 class now d k) (drawing 4 class now d nothing_yet k)
  unfolding First Later
  first k w =
      let o = draw now k in
      let s = shown o in
      let e : s ≡ step_view (view k) (read now 15) = shadow k (draw_call now) w in
      let opened : o.answer.number ≡ 0 → Open (view k) = λ z. done_open now (view k) (ap (λ (x : Shown). x.answer.number) (sym e) ∙ z) in
      let one : o.answer.number ≡ 0 → o.answer.blocks ≡ 1 = λ z. ap (λ (x : Shown). x.answer.blocks) e ∙ (open_answer now (view k) (opened z)).blocks in
      let none_more : 0 + o.answer.compressions ≡ o.answer.compressions = zero-add o.answer.compressions in
      let r = thrown_away 3 class now d o.keeper in
      drawing_by (First s (view k)) 3 class now d nothing_yet k
      (λ z t. let b = one z in
      let more : 0 + o.answer.blocks + suc r ≡ suc (suc r) = omega arith in
      let most : 0 + o.answer.blocks + 3 ≡ 4 = omega arith in
      let settled : Settled now (view o.keeper) = rw (ap (λ (x : Shown). x.view) e) (leaves_settled now (view k) (opened z)) in
      later 3 (spending nothing_yet o.answer) o.keeper (stays_whole k (draw_call now) w) settled
      ∙ (λ i. ending (both_more r 3 i) (view o.keeper) d.count (more i) (most i) (none_more i))
      ∙ sym (chosen (eqb o.answer.number 0) _ _ (eq-eqb o.answer.number 0 z)))
      (λ z f. let b : 0 + o.answer.blocks ≡ 1 = zero-add o.answer.blocks ∙ one z in
      (λ i. record { view = view o.keeper; count = count_after (class ∷ o.bytes) d i; answer = record { number = 0; delivered = 16; blocks = b i; compressions = none_more i; added = 0 } })
      ∙ sym (chosen (ltb 0 4) _ _ refl)
      ∙ sym (chosen (eqb o.answer.number 0) _ _ (eq-eqb o.answer.number 0 z)))
      (λ refuses. declines k refuses ∙ sym (passed (eqb o.answer.number 0) _ _ (ne_eqb o.answer.number 0 refuses)))

-- ---- the whole call
record Shows (k : Keeper) (d : Desk) (now : ℕ) (field : List ℕ) (r : ℕ) (x : LeftWith) : Type 0 where
  so : desk_shown x ≡ issue_shows (view k) d.count (class_of field) now r

-- WHAT A DESK CALL SHOWS
pub desk_shadow : (k : Keeper) (d : Desk) (now : ℕ) (field : List ℕ) → Whole k
    → desk_shown (issue k d now field) ≡ issue_shows (view k) d.count (class_of field) now (repeats k d now field)
unfolding First issue_shows
desk_shadow k d now field w =
    let v = view k in
    let e = shadow k (draw_call now) w in
    (issue_by (Shows k d now field) k d now field
    (λ f. record { so = sym (passed (fine k && desk_in_range d) _ _ f) })
    (λ f z. record { so = sym (chosen (fine k && desk_in_range d) _ _ f ∙ chosen (eqb (class_of field) 0) _ _ (eq-eqb (class_of field) 0 z)) })
    (λ f c. let r = thrown_away 4 (class_of field) now d k in
    record {
      so = first (class_of field) now d k w
          ∙ ap (λ (s : Shown). pick (eqb s.answer.number 0) (draws_show r s d.count) (unmoved s.answer.number v d.count)) e
          ∙ sym (chosen (fine k && desk_in_range d) _ _ f ∙ passed (eqb (class_of field) 0) _ _ (ne_eqb (class_of field) 0 c));
    })).so
