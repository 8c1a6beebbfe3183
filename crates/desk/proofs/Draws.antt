-- One draw, and the ways that draws and a desk call can go. All that is said of desk calls goes through the two rules at the end.
use mathlib.Core.Path.{◌≡◌, refl, sym, ap, ◌∙◌}
use mathlib.Core.Bool.{Bool, true, false, not, ◌&&◌}
use mathlib.Core.List.{List, ◌∷◌}
use Prim.Native.Nat.{ℕ, suc, ◌≤◌}
use native.Mathlib.Omega.{arith}
use lib.Dec.{eqb}
use lib.ListN.{length, take, replicate}
use borrow.Author.Tests.{eqb-true, eqb-false}
use Rattle.ledger.specs.Choice.{pick}
use Rattle.ledger.specs.Shapes.{input_shape}
use Rattle.ledger.specs.Places.{costs}
use Rattle.ledger.specs.Credits.{reseed_takes}
use Rattle.ledger.specs.Streams.{stream_blocks}
use Rattle.ledger.specs.Marks.{is_seeded, reseed_due}
use Rattle.ledger.specs.PublicCalls.{read}
use Rattle.ledger.specs.Machine.{step_view}
use Rattle.ledger.proofs.Picks.{pick_both}
use Rattle.ledger.proofs.Crediting.{taken_wanted}
use Rattle.pool.proofs.Extracted.{laws}
use Rattle.keeper.specs.Record.{Outcome, refused, Run, reached, fine, view, input_pool, with_fast}
use Rattle.keeper.specs.Obey.{obey, step}
use Rattle.keeper.specs.Demands.{shown}
use Rattle.keeper.specs.Narrative.{reseed, generate, read_call, act, told}
use Rattle.keeper.specs.declared.Keeper.{Keeper}
use Rattle.keeper.proofs.Counter.{key_length, key_top, generated-length, generated-blocks, generated_keeps_length, generated_top}
use Rattle.keeper.proofs.Same.{same}
use Rattle.keeper.proofs.Shadow.{Whole, shadow}
use Rattle.desk.specs.Sizes.{most_draws}
use Rattle.desk.specs.Desks.{remembered, among, appended, desk_in_range}
use Rattle.desk.specs.Issuing.{LeftWith, left_with, Spent, nothing_yet, spending, none, handed, draw_call, draw, drawing, class_of, issue}
use Rattle.desk.specs.Repeats.{thrown_away, repeats}
use Rattle.desk.specs.declared.Desk.{Desk}

-- ---- a read of 15 bytes, on a generator of 16 words: all of them where it is not refused, a block at most, 32 compressions at most; the
-- generator keeps its length and its fixed words
pub record Drawn (g : List ℕ) (o : Outcome) : Type 0 where
  pub full : o.answer.number ≡ 0 → length o.bytes ≡ 15
  pub blocks : o.answer.blocks ≤ 1
  pub compressions : o.answer.compressions ≤ 32
  pub adds : o.answer.added ≡ 0
  pub long : length o.keeper.generator ≡ 16
  pub fixed : take 4 o.keeper.generator ≡ take 4 g

-- a keeper that may have been seeded anew
record Ready (g : List ℕ) (w : Run) : Type 0 where
  words : length w.keeper.generator ≡ 16
  top : take 4 w.keeper.generator ≡ take 4 g
  runs : w.compressions ≤ 32
  none-added : w.added ≡ 0

still_ready : (k : Keeper) → length k.generator ≡ 16 → Ready k.generator (reached k)
still_ready k g = record { words = g; top = refl; runs = omega arith; none-added = refl }

reseed_ready : (now : ℕ) (k : Keeper) → length k.generator ≡ 16 → Ready k.generator (reseed now k)
unfolding reseed costs
reseed_ready now k g =
    let t = reseed_takes k.ledger.input.count in
    let r = (laws input_shape).take_runs t (input_pool k) in
    let w = taken_wanted 32 16 k.ledger.input.count in
    pick_both (Ready k.generator) _ (still_ready k g) (record { words = key_length _ _ ∙ g; top = key_top _ _; runs = rw r (omega (arith, w)); none-added = refl })

one_block : stream_blocks 15 ≡ 1
unfolding pick
one_block = refl

generate_drawn : (g : List ℕ) (w : Run) → Ready g w → Drawn g (generate 15 w)
unfolding generate
generate_drawn g w r =
    record {
      full = λ e. generated-length 15 w.keeper.generator r.words;
      blocks = rw (generated-blocks 15 w.keeper.generator, one_block) (omega arith);
      compressions = r.runs;
      adds = r.none-added;
      long = generated_keeps_length 15 w.keeper.generator ∙ r.words;
      fixed = generated_top 15 w.keeper.generator ∙ r.top;
    }

declined : (n : ℕ) (k : Keeper) → (n ≡ 0 → ⊥) → length k.generator ≡ 16 → Drawn k.generator (refused n k)
declined n k h g = record { full = λ e. absurd (h e); blocks = omega arith; compressions = omega arith; adds = refl; long = g; fixed = refl }

-- 15 bytes are neither too many nor none
pub read_15 : (now : ℕ) (k : Keeper)
    → read_call now 15 k ≡ pick (not (is_seeded k.ledger)) (refused 2 k) (generate 15 (pick (reseed_due now k.ledger) (reseed now k) (reached k)))
unfolding read_call pick
read_15 now k = refl

read_drawn : (now : ℕ) (k : Keeper) → length k.generator ≡ 16 → Drawn k.generator (read_call now 15 k)
read_drawn now k g =
    rw (read_15 now k)
    (pick_both (Drawn k.generator) _ (declined 2 k (λ e. omega arith) g)
    (generate_drawn k.generator _ (pick_both (Ready k.generator) _ (reseed_ready now k g) (still_ready k g))))

pub drawn : (now : ℕ) (k : Keeper) → length k.generator ≡ 16 → Drawn k.generator (draw now k)
unfolding told act
drawn now k g = pick_both (Drawn k.generator) (fine k) (read_drawn now k g) (declined 17 k (λ e. omega arith) g)

-- ---- a draw shows what the public machine gives; it asks for the length of the generator alone, since no read looks at the fast pool
pub draw_shadow : (now : ℕ) (k : Keeper) → length k.generator ≡ 16 → shown (draw now k) ≡ step_view (view k) (read now 15)
unfolding step obey
draw_shadow now k g =
    let other = with_fast (replicate 4 0) k in
    let w : Whole other = record { fast = refl; generator = g } in
    ap shown (same k (draw_call now)) ∙ sym (ap shown (same other (draw_call now))) ∙ shadow other (draw_call now) w

-- ---- by cases
two_tests : {A B : Type 0} (P : A → B → Type 0) (t u : Bool) {a b : A} {x y z : B} → (t ≡ true → u ≡ true → P a x) → (t ≡ true → u ≡ false → P b y) → (t ≡ false → P b z)
    → P (pick t (pick u a b) b) (pick t (pick u x y) z)
unfolding pick
two_tests P true true f g h = f refl refl
two_tests P true false f g h = g refl refl
two_tests P false u f g h = h refl

but_not : {A B : Type 0} (P : A → B → Type 0) (t u : Bool) {a b : A} {x y z : B} → (t ≡ false → P b z) → (t ≡ true → u ≡ true → P b x) → (t ≡ true → u ≡ false → P a y)
    → P (pick (t && not u) a b) (pick t (pick u x y) z)
unfolding pick
but_not P true true f g h = g refl refl
but_not P true false f g h = h refl refl
but_not P false u f g h = f refl

-- what holds of each way that a draw can go holds of draws of which one at least is left, and of how many of them are thrown away
pub drawing_by : (P : ℕ → LeftWith → Type 0) (n class now : ℕ) (d : Desk) (s : Spent) (k : Keeper)
    → let o = draw now k in
    let number = class ∷ o.bytes in
    let spent = spending s o.answer in
    (o.answer.number ≡ 0 → among number (remembered d) ≡ true → P (suc (thrown_away n class now d o.keeper)) (drawing n class now d spent o.keeper))
    → (o.answer.number ≡ 0 → among number (remembered d) ≡ false → P 0 (left_with o.keeper (appended number d) (handed spent number)))
    → ((o.answer.number ≡ 0 → ⊥) → P 0 (left_with o.keeper d (none o.answer.number spent)))
    → P (thrown_away (suc n) class now d k) (drawing (suc n) class now d s k)
unfolding drawing thrown_away
drawing_by P n class now d s k repeat new decline =
    let o = draw now k in
    let number = class ∷ o.bytes in
    let e = eqb-true o.answer.number 0 in
    two_tests P (eqb o.answer.number 0) (among number (remembered d)) (λ h t. repeat (e h) t) (λ h t. new (e h) t) (λ h. decline (eqb-false o.answer.number 0 h))

-- .. and of the desk call
pub issue_by : (P : ℕ → LeftWith → Type 0) (k : Keeper) (d : Desk) (now : ℕ) (field : List ℕ)
    → ((fine k && desk_in_range d) ≡ false → P 0 (left_with k d (none 17 nothing_yet)))
    → ((fine k && desk_in_range d) ≡ true → class_of field ≡ 0 → P 0 (left_with k d (none 13 nothing_yet)))
    → ((fine k && desk_in_range d) ≡ true → (class_of field ≡ 0 → ⊥) → P (thrown_away most_draws (class_of field) now d k) (drawing most_draws (class_of field) now d nothing_yet k))
    → P (repeats k d now field) (issue k d now field)
unfolding issue repeats
issue_by P k d now field p q r =
    let c = class_of field in
    but_not P (fine k && desk_in_range d) (eqb c 0) p (λ h e. q h (eqb-true c 0 e)) (λ h e. r h (eqb-false c 0 e))
