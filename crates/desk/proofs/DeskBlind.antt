-- Demand 3 with a desk. Two runs of keeper calls and desk calls, with the same public fields and the same classes: what they show can differ by
-- the draws that repeated, and by nothing else.
use mathlib.Core.Path.{◌≡◌, refl, sym, ap, ap₂, ◌∙◌}
use mathlib.Core.Bool.{Bool, true, false}
use mathlib.Core.List.{List, [], ◌∷◌, map}
use Prim.Native.Nat.{ℕ, suc, ◌+◌, ◌≤◌}
use native.Mathlib.Omega.{arith}
use lib.Dec.{ltb}
use lib.ListN.{length, replicate, length-map}
use borrow.Author.Tests.{ltb-true, le-leb}
use Rattle.ledger.specs.Choice.{pick}
use Rattle.ledger.specs.Range.{View}
use Rattle.ledger.specs.PublicCalls.{read}
use Rattle.ledger.specs.Machine.{Shown, step_view}
use Rattle.ledger.proofs.Picks.{pick_by, pick_both}
use Rattle.keeper.specs.Record.{fresh, view}
use Rattle.ledger.specs.declared.Answer.{Answer}
use Rattle.keeper.specs.declared.Keeper.{Keeper}
use Rattle.keeper.proofs.Shadow.{Whole, shadow}
use Rattle.keeper.proofs.Blind.{fresh_whole}
use Rattle.desk.specs.Desks.{desk_of}
use Rattle.desk.specs.Runs.{Act, calls, asks, PublicAct, public_call, public_ask, public_act, acted, acts_leave, repeats_by, repeats_in, NoRepeat}
use Rattle.desk.specs.Shown.{DeskShown, desk_shown, unmoved, issued_after, repeated_all, draws_show, issue_shows, act_shows, run_shows, Drew, a_number, no_number, Close, alike, both_drew, AllNear, ended, called, asked}
use Rattle.desk.specs.declared.Desk.{Desk}
use Rattle.desk.proofs.DeskShadow.{desk_shadow}
use Rattle.desk.proofs.StaysInRange.{acted_whole}

-- ---- what a run shows is worked out from public numbers and from how many draws repeated
act_shadow : (k : Keeper) (d : Desk) (a : Act) → Whole k → desk_shown (acted k d a) ≡ act_shows (view k) d.count (public_act a) (repeats_by k d a)
unfolding acted
act_shadow k d (calls c) w = ap (λ (s : Shown). record { view = s.view; count = d.count; answer = s.answer }) (shadow k c w)
act_shadow k d (asks now field) w = desk_shadow k d now field w

pub run_shadow : (k : Keeper) (d : Desk) (acts : List Act) → Whole k
    → map desk_shown (acts_leave k d acts) ≡ run_shows (view k) d.count (map public_act acts) (repeats_in k d acts)
unfolding acts_leave repeats_in run_shows
run_shadow k d [] w = refl
run_shadow k d (a ∷ more) w =
    let x = acted k d a in
    let e = act_shadow k d a w in
    ap₂ ◌∷◌ e
    (run_shadow x.keeper x.desk more (acted_whole k d a w)
    ∙ ap (λ (y : DeskShown). run_shows y.view y.count (map public_act more) (repeats_in x.keeper x.desk more)) e)

-- two keepers and desks of which the same can be seen, acts of which the same can be seen, and as many draws that repeat in each: they show the same
pub desk_blind : (k k' : Keeper) (d d' : Desk) (acts acts' : List Act) → Whole k → Whole k' → view k ≡ view k' → d.count ≡ d'.count → map public_act acts ≡ map public_act acts'
    → repeats_in k d acts ≡ repeats_in k' d' acts' → map desk_shown (acts_leave k d acts) ≡ map desk_shown (acts_leave k' d' acts')
desk_blind k k' d d' acts acts' w w' v n e r =
    run_shadow k d acts w ∙ (λ i. run_shows (v i) (n i) (e i) (r i)) ∙ sym (run_shadow k' d' acts' w')

-- ---- runs in which no draw repeats
-- as many numbers as acts
one_each : (k : Keeper) (d : Desk) (acts : List Act) → length (repeats_in k d acts) ≡ length acts
unfolding repeats_in
one_each k d [] = refl
one_each k d (a ∷ more) = ap suc (one_each (acted k d a).keeper (acted k d a).desk more)

-- .. which are all 0
all_zero : (ns : List ℕ) → NoRepeat ns → ns ≡ replicate (length ns) 0
unfolding NoRepeat
all_zero [] h = refl
all_zero (n ∷ ns) h = ap₂ ◌∷◌ h.0 (all_zero ns h.1)

as_many : (acts acts' : List Act) → map public_act acts ≡ map public_act acts' → length acts ≡ length acts'
as_many acts acts' e = sym (length-map acts public_act) ∙ ap length e ∙ length-map acts' public_act

pub no_repeat_blind : (k k' : Keeper) (d d' : Desk) (acts acts' : List Act) → Whole k → Whole k' → view k ≡ view k' → d.count ≡ d'.count → map public_act acts ≡ map public_act acts'
    → NoRepeat (repeats_in k d acts) → NoRepeat (repeats_in k' d' acts') → map desk_shown (acts_leave k d acts) ≡ map desk_shown (acts_leave k' d' acts')
no_repeat_blind k k' d d' acts acts' w w' v n e r r' =
    let long = one_each k d acts ∙ as_many acts acts' e ∙ sym (one_each k' d' acts') in
    desk_blind k k' d d' acts acts' w w' v n e (all_zero _ r ∙ ap (λ (m : ℕ). replicate m 0) long ∙ sym (all_zero _ r'))

-- DEMAND 3 with a desk: two fresh keepers and two empty desks, whatever lies in their free places
pub demand_3_desk : (start start' ns ns' : List ℕ) → length start ≡ 48 → length start' ≡ 48 → (acts acts' : List Act) → map public_act acts ≡ map public_act acts'
    → NoRepeat (repeats_in (fresh start) (desk_of 0 ns) acts) → NoRepeat (repeats_in (fresh start') (desk_of 0 ns') acts')
    → map desk_shown (acts_leave (fresh start) (desk_of 0 ns) acts) ≡ map desk_shown (acts_leave (fresh start') (desk_of 0 ns') acts')
demand_3_desk start start' ns ns' h h' acts acts' e r r' =
    no_repeat_blind (fresh start) (fresh start') (desk_of 0 ns) (desk_of 0 ns') acts acts' (fresh_whole start h) (fresh_whole start' h') refl refl e r r'

-- ---- runs in which draws repeat as they will
-- two choices by one test
alongside : {A : Type 0} (Q : A → A → Type 0) (t : Bool) (x x' y y' : A) → Q x x' → Q y y' → Q (pick t x y) (pick t x' y')
unfolding pick
alongside Q true x x' y y' p q = p
alongside Q false x x' y y' p q = q

-- a call that drew
drew : (r : ℕ) (s : Shown) (count : ℕ) → Drew s.answer.compressions (draws_show r s count).answer
drew r s count =
    pick_by (λ (x : DeskShown). Drew s.answer.compressions x.answer) (ltb r 4) {x = issued_after r s count} {y = repeated_all s count}
    (λ e. a_number r (ltb-true r 4 e) refl) (λ e. no_number refl)

drew_view : (r : ℕ) (s : Shown) (count : ℕ) → (draws_show r s count).view ≡ s.view
drew_view r s count = pick_both (λ (x : DeskShown). x.view ≡ s.view) (ltb r 4) {x = issued_after r s count} {y = repeated_all s count} refl refl

-- alike but for the desk's count and for what repeats show
record Near (x y : DeskShown) : Type 0 where
  view : x.view ≡ y.view
  answers : Close x.answer y.answer

near_issue : (v : View) (count count' class now r r' : ℕ) → count ≤ 64 → count' ≤ 64 → Near (issue_shows v count class now r) (issue_shows v count' class now r')
unfolding issue_shows
near_issue v count count' class now r r' h h' =
    let s = step_view v (read now 15) in
    let still : (why : ℕ) → Near (unmoved why v count) (unmoved why v count') = λ why. record { view = refl; answers = alike refl } in
    let drawn : Near (draws_show r s count) (draws_show r' s count') =
    record { view = drew_view r s count ∙ sym (drew_view r' s count'); answers = both_drew s.answer.compressions (drew r s count) (drew r' s count') } in
    rw (le-leb count 64 h, le-leb count' 64 h')
    (alongside Near _ _ _ _ _ (alongside Near _ _ _ _ _ (still 13) (alongside Near _ _ _ _ _ drawn (still s.answer.number))) (still 17))

-- a count in range stays so
count_issue : (v : View) (count class now r : ℕ) → count ≤ 64 → (issue_shows v count class now r).count ≤ 64
unfolding issue_shows
count_issue v count class now r h =
    let s = step_view v (read now 15) in
    let P : DeskShown → Type 0 = λ x. x.count ≤ 64 in
    let more : P (issued_after r s count) = pick_by (λ (c : ℕ). c ≤ 64) (ltb count 64) (λ e. let l = ltb-true count 64 e in omega arith) (λ e. h) in
    pick_both P _ (pick_both P _ h (pick_both P _ (pick_both P (ltb r 4) {x = issued_after r s count} {y = repeated_all s count} more h) h)) h

near_run : (v v' : View) (count count' : ℕ) (acts : List PublicAct) (rs rs' : List ℕ) → v ≡ v' → count ≤ 64 → count' ≤ 64 → length rs ≡ length acts → length rs' ≡ length acts
    → AllNear acts (run_shows v count acts rs) (run_shows v' count' acts rs')
unfolding run_shows
near_run v v' count count' [] rs rs' e h h' l l' = ended
near_run v v' count count' (a ∷ more) [] rs' e h h' l l' = absurd (omega arith)
near_run v v' count count' (a ∷ more) (r ∷ rs) [] e h h' l l' = absurd (omega arith)
near_run v v' count count' (public_call c ∷ more) (r ∷ rs) (r' ∷ rs') e h h' l l' =
    let s = ap (λ (u : View). step_view u c) e in
    called (λ i. (s i).view) (λ i. (s i).answer) (near_run (step_view v c).view (step_view v' c).view count count' more rs rs' (λ i. (s i).view) h h' (omega arith) (omega arith))
near_run v v' count count' (public_ask now class ∷ more) (r ∷ rs) (r' ∷ rs') e h h' l l' =
    let x = issue_shows v count class now r in
    let x' = issue_shows v' count' class now r' in
    let n : Near x x' = rw e (near_issue v' count count' class now r r' h h') in
    asked n.view n.answers
    (near_run x.view x'.view x.count x'.count more rs rs' n.view (count_issue v count class now r h) (count_issue v' count' class now r' h') (omega arith) (omega arith))

-- WITHOUT THE CONDITION: whatever the desks remember and whichever draws repeat, the same is public of the record after each call, every call of the
-- keeper answers the same, and what a desk call answers differs by three blocks at the most, and by a number or none
pub near : (k k' : Keeper) (d d' : Desk) (acts acts' : List Act) → Whole k → Whole k' → view k ≡ view k' → d.count ≤ 64 → d'.count ≤ 64 → map public_act acts ≡ map public_act acts'
    → AllNear (map public_act acts) (map desk_shown (acts_leave k d acts)) (map desk_shown (acts_leave k' d' acts'))
near k k' d d' acts acts' w w' v h h' e =
    let l : length (repeats_in k d acts) ≡ length (map public_act acts) = one_each k d acts ∙ sym (length-map acts public_act) in
    let l' : length (repeats_in k' d' acts') ≡ length (map public_act acts) = one_each k' d' acts' ∙ sym (as_many acts acts' e) ∙ sym (length-map acts public_act) in
    let shows : map desk_shown (acts_leave k' d' acts') ≡ run_shows (view k') d'.count (map public_act acts) (repeats_in k' d' acts') =
    run_shadow k' d' acts' w' ∙ ap (λ (as' : List PublicAct). run_shows (view k') d'.count as' (repeats_in k' d' acts')) (sym e) in
    rw (run_shadow k d acts w, shows) (near_run (view k) (view k') d.count d'.count (map public_act acts) _ _ v h h' l l')

-- by how much: the work of three reads, which is three blocks and no compression
pub record ThreeReads (a b : Answer) : Type 0 where
  pub more : a.blocks ≤ b.blocks + 3
  pub fewer : b.blocks ≤ a.blocks + 3
  pub compressions : a.compressions ≡ b.compressions
  pub added : a.added ≡ b.added

abbrev OneToFour : ℕ → Answer → Type 0
OneToFour c a = ((1 ≤ a.blocks) × (a.blocks ≤ 4)) × ((a.compressions ≡ c) × (a.added ≡ 0))

one_to_four : (c : ℕ) (a : Answer) → Drew c a → OneToFour c a
one_to_four c a (a_number r h e) = rw e ((omega arith, omega arith), (refl, refl))
one_to_four c a (no_number e) = rw e ((omega arith, omega arith), (refl, refl))

pub three_reads : (a b : Answer) → Close a b → ThreeReads a b
three_reads a b (alike e) = rw e (record { more = omega arith; fewer = omega arith; compressions = refl; added = refl })
three_reads a b (both_drew c x y) =
    let p = one_to_four c a x in
    let q = one_to_four c b y in
    record { more = omega (arith, p.0.1, q.0.0); fewer = omega (arith, q.0.1, p.0.0); compressions = p.1.0 ∙ sym q.1.0; added = p.1.1 ∙ sym q.1.1 }
