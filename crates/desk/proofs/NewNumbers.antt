-- An issued number has 16 bytes, begins with its class byte, differs from every number that is remembered, and is remembered then, behind the
-- others. Drill and live numbers never meet, whatever keepers and desks they come from.
use mathlib.Core.Path.{◌≡◌, refl, sym, ap, ap₂, ◌∙◌}
use mathlib.Core.Bool.{Bool, true, false, ◌||◌, false≢true}
use mathlib.Core.List.{List, [], ◌∷◌, head-eq_of_cons-eq}
use Prim.Native.Nat.{ℕ, zero, suc, ◌<◌}
use native.Mathlib.Omega.{arith}
use lib.Dec.{eqb}
use lib.ListN.{length, get_or}
use borrow.Author.Tests.{eq-eqb, eqb-true}
use Rattle.ledger.specs.Choice.{pick}
use Rattle.ledger.proofs.Picks.{pick_by, and_left, and_right}
use Rattle.keeper.specs.declared.Keeper.{Keeper}
use Rattle.desk.specs.Sizes.{most_draws}
use Rattle.desk.specs.Desks.{remembered, same, among, appended}
use Rattle.desk.specs.Issuing.{LeftWith, left_with, Spent, nothing_yet, spending, handed, draw, drawing, class_of, issue}
use Rattle.desk.specs.Runs.{Differs}
use Rattle.desk.specs.declared.Desk.{Desk}
use Rattle.desk.proofs.Draws.{drawn, drawing_by, issue_by}

-- ---- what the comparison says
pub same_self : (n : List ℕ) → same n n ≡ true
unfolding same
same_self [] = refl
same_self (x ∷ n) = rw (eq-eqb x x refl) (same_self n)

pub same_eq : (xs ys : List ℕ) → same xs ys ≡ true → xs ≡ ys
unfolding same
same_eq [] [] h = refl
same_eq [] (y ∷ ys) h = absurd (false≢true h)
same_eq (x ∷ xs) [] h = absurd (false≢true h)
same_eq (x ∷ xs) (y ∷ ys) h = ap₂ ◌∷◌ (eqb-true x y (and_left _ _ h)) (same_eq xs ys (and_right (eqb x y) _ h))

or_left : (a b : Bool) → (a || b) ≡ false → a ≡ false
or_left false b h = refl
or_left true b h = h

or_right : (a b : Bool) → (a || b) ≡ false → b ≡ false
or_right false b h = h
or_right true b h = absurd (false≢true (sym h))

-- a number that is not among some differs from each of them
pub differs : (n : List ℕ) (ms : List (List ℕ)) → among n ms ≡ false → Differs n ms
unfolding among
differs n [] h i l e = absurd (omega arith)
differs n (m ∷ ms) h zero l e = false≢true (sym (or_left (same m n) (among n ms) h) ∙ ap (λ (x : List ℕ). same x n) e ∙ same_self n)
differs n (m ∷ ms) h (suc i) l e = differs n ms (or_right (same m n) (among n ms) h) i (omega arith) e

-- .. and one that is among them does not
pub not_among : (n : List ℕ) (ms : List (List ℕ)) → Differs n ms → among n ms ≡ false
unfolding among
not_among n [] h = refl
not_among n (m ∷ ms) h = go (same m n) refl (not_among n ms (λ i l f. h (suc i) (omega arith) f))
  where
    go : (t : Bool) → same m n ≡ t → among n ms ≡ false → (same m n || among n ms) ≡ false
    go true e rest = absurd (h 0 (omega arith) (same_eq m n e))
    go false e rest = rw e rest

pub is_among : (n : List ℕ) (ms : List (List ℕ)) (i : ℕ) → i < length ms → get_or ms i [] ≡ n → among n ms ≡ true
is_among n ms i l e = go (among n ms) refl
  where
    go : (t : Bool) → among n ms ≡ t → among n ms ≡ true
    go true f = f
    go false f = absurd (differs n ms f i l e)

-- ---- one draw that the keeper makes, exactly: a number that differs from all remembered is issued at once ..
pub issues_new : (n class now : ℕ) (d : Desk) (s : Spent) (k : Keeper) → let o = draw now k in
    o.answer.number ≡ 0 → Differs (class ∷ o.bytes) (remembered d)
    → drawing (suc n) class now d s k ≡ left_with o.keeper (appended (class ∷ o.bytes) d) (handed (spending s o.answer) (class ∷ o.bytes))
unfolding drawing pick
issues_new n class now d s k z h = let o = draw now k in rw (eq-eqb o.answer.number 0 z, not_among (class ∷ o.bytes) (remembered d) h) refl

-- .. and one that equals a remembered number is thrown away: what the draws after it give is what is given
pub throws_away : (n class now : ℕ) (d : Desk) (s : Spent) (k : Keeper) → let o = draw now k in
    o.answer.number ≡ 0 → (i : ℕ) → i < length (remembered d) → get_or (remembered d) i [] ≡ class ∷ o.bytes
    → drawing (suc n) class now d s k ≡ drawing n class now d (spending s o.answer) o.keeper
unfolding drawing pick
throws_away n class now d s k z i l e = let o = draw now k in rw (eq-eqb o.answer.number 0 z, is_among (class ∷ o.bytes) (remembered d) i l e) refl

-- ---- a number that is issued
pub record NewNumber (class : ℕ) (d : Desk) (x : LeftWith) : Type 0 where
  pub begins : (bs : List ℕ) × (x.issued.number ≡ class ∷ bs)
  pub long : length x.issued.number ≡ 16
  pub new : Differs x.issued.number (remembered d)
  pub kept : x.desk ≡ appended x.issued.number d
  pub delivered : x.issued.answer.delivered ≡ 16

record IfIssued (class : ℕ) (d : Desk) (x : LeftWith) : Type 0 where
  so : x.issued.answer.number ≡ 0 → NewNumber class d x

draws_new : (n class now : ℕ) (d : Desk) (s : Spent) (k : Keeper) → length k.generator ≡ 16 → IfIssued class d (drawing n class now d s k)
unfolding drawing
draws_new zero class now d s k g = record { so = λ e. absurd (omega arith) }
draws_new (suc n) class now d s k g =
    let o = draw now k in
    let w = drawn now k g in
    drawing_by (λ r. IfIssued class d) n class now d s k
    (λ z t. draws_new n class now d (spending s o.answer) o.keeper w.long)
    (λ z f. record { so = λ e. record { begins = (o.bytes, refl); long = ap suc (w.full z); new = differs _ (remembered d) f; kept = refl; delivered = refl } })
    (λ h. record { so = λ e. absurd (h e) })

-- NEW
pub new_number : (k : Keeper) (d : Desk) (now : ℕ) (field : List ℕ) → length k.generator ≡ 16
    → (issue k d now field).issued.answer.number ≡ 0 → NewNumber (class_of field) d (issue k d now field)
new_number k d now field g =
    (issue_by (λ r. IfIssued (class_of field) d) k d now field (λ f. record { so = λ e. absurd (omega arith) }) (λ f h. record { so = λ e. absurd (omega arith) })
    (λ f h. draws_new most_draws (class_of field) now d nothing_yet k g)).so

-- ---- the class byte
-- each class is named by its one byte
pub names_drill : class_of (0x44 ∷ []) ≡ 0x44
unfolding class_of same pick
names_drill = refl

pub names_live : class_of (0x4C ∷ []) ≡ 0x4C
unfolding class_of same pick
names_live = refl

-- .. and by no other field
pub names_none : (field : List ℕ) → (field ≡ 0x44 ∷ [] → ⊥) → (field ≡ 0x4C ∷ [] → ⊥) → class_of field ≡ 0
unfolding class_of
names_none field h l =
    pick_by (λ (c : ℕ). c ≡ 0) (same field (0x44 ∷ [])) (λ e. absurd (h (same_eq field (0x44 ∷ []) e)))
    (λ e. pick_by (λ (c : ℕ). c ≡ 0) (same field (0x4C ∷ [])) (λ f. absurd (l (same_eq field (0x4C ∷ []) f))) (λ f. refl))

-- DRILL AND LIVE NEVER MEET
pub never_meet : (k k' : Keeper) (d d' : Desk) (now now' : ℕ) → length k.generator ≡ 16 → length k'.generator ≡ 16
    → (issue k d now (0x44 ∷ [])).issued.answer.number ≡ 0 → (issue k' d' now' (0x4C ∷ [])).issued.answer.number ≡ 0
    → (issue k d now (0x44 ∷ [])).issued.number ≡ (issue k' d' now' (0x4C ∷ [])).issued.number → ⊥
never_meet k k' d d' now now' g g' z z' e =
    let b = (new_number k d now (0x44 ∷ []) g z).begins in
    let b' = (new_number k' d' now' (0x4C ∷ []) g' z').begins in
    let c : class_of (0x44 ∷ []) ≡ class_of (0x4C ∷ []) = head-eq_of_cons-eq (sym b.1 ∙ e ∙ b'.1) in
    let f : ◌≡◌ {A = ℕ} 0x44 0x4C = sym names_drill ∙ c ∙ names_live in
    omega (arith, f)
