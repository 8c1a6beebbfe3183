-- Runs of a keeper and a desk: what the desk remembers at the end are the last 64 of what it remembered and of what was issued, and any two of the
-- last 65 numbers issued differ.
use mathlib.Core.Path.{◌≡◌, sym, ap, ◌∙◌}
use mathlib.Core.List.{List, [], ◌∷◌, ◌++◌, append-nil, append_assoc}
use Prim.Native.Nat.{ℕ, zero, suc, ◌+◌, ◌-◌, ◌≤◌, ◌<◌, min}
use native.Mathlib.Omega.{arith}
use lib.Dec.{eqb}
use lib.ListN.{length, get_or, take, drop, length-append, length-drop}
use lib.Seq.{drop-drop, drop-append-le, get_or-drop, get_or-take, get_or-append-add, length-take-le}
use borrow.Author.Tests.{eqb-true, eqb-false}
use Rattle.ledger.proofs.Picks.{pick_by}
use Rattle.keeper.specs.declared.Keeper.{Keeper}
use Rattle.desk.specs.Desks.{remembered}
use Rattle.desk.specs.Issuing.{issue}
use Rattle.desk.specs.Runs.{Act, calls, asks, acted, numbers_by, issued_in, desk_after, Differs, newest}
use Rattle.desk.specs.declared.Desk.{Desk}
use Rattle.desk.proofs.NewNumbers.{new_number}
use Rattle.desk.proofs.DeskAfter.{DeskWhole, how_many, all_new, desk_after_lem}
use Rattle.desk.proofs.Refusals.{no_number}
use Rattle.desk.proofs.StaysInRange.{Stand, acted-stands}

-- ---- the last 64 of some
-- those of the last 64 and of more are those of all
newest-newest : (xs ys : List (List ℕ)) → newest (newest xs ++ ys) ≡ newest (xs ++ ys)
newest-newest xs ys =
    let m = length xs - 64 in
    let front : drop m xs ++ ys ≡ drop m (xs ++ ys) = sym (drop-append-le m xs ys (omega arith)) in
    let n = length (drop m (xs ++ ys)) - 64 in
    let all : length (xs ++ ys) ≡ length xs + length ys = length-append xs ys in
    let at : m + n ≡ length (xs ++ ys) - 64 = omega (arith, length-drop m (xs ++ ys)) in
    ap newest front ∙ drop-drop n m (xs ++ ys) ∙ ap (λ (i : ℕ). drop i (xs ++ ys)) at

-- ---- one act: the numbers that it issues, and the desk
none_new : (d : Desk) → DeskWhole d → remembered d ≡ newest (remembered d ++ [])
none_new d w =
    let e : length (remembered d ++ []) - 64 ≡ 0 = omega (arith, ap length (append-nil (remembered d)), how_many d.count d.numbers, w.counted) in
    sym (ap (λ (i : ℕ). drop i (remembered d ++ [])) e ∙ append-nil (remembered d))

act_keeps : (k : Keeper) (d : Desk) (a : Act) → Stand k d → let x = acted k d a in remembered x.desk ≡ newest (remembered d ++ numbers_by a x.issued)
unfolding acted
act_keeps k d (calls c) h = none_new d h.desk
act_keeps k d (asks now field) h =
    let x = issue k d now field in
    pick_by (λ (ns : List (List ℕ)). remembered x.desk ≡ newest (remembered d ++ ns)) (eqb x.issued.answer.number 0)
    (λ e. let n = new_number k d now field h.whole.generator (eqb-true _ 0 e) in
    ap remembered n.kept ∙ desk_after_lem x.issued.number d h.desk n.long)
    (λ e. ap remembered (no_number k d now field (eqb-false _ 0 e)).desk ∙ none_new d h.desk)

-- THE DESK AT THE END
pub remembered-after : (k : Keeper) (d : Desk) (acts : List Act) → Stand k d → remembered (desk_after k d acts) ≡ newest (remembered d ++ issued_in k d acts)
unfolding desk_after issued_in
remembered-after k d [] h = none_new d h.desk
remembered-after k d (a ∷ more) h =
    let x = acted k d a in
    let ns = numbers_by a x.issued in
    let ms = issued_in x.keeper x.desk more in
    remembered-after x.keeper x.desk more (acted-stands k d a h)
    ∙ ap (λ (l : List (List ℕ)). newest (l ++ ms)) (act_keeps k d a h) ∙ newest-newest (remembered d ++ ns) ms ∙ ap newest (append_assoc (remembered d) ns ms)

-- so its count is told by how many were issued
pub count_after : (k : Keeper) (d : Desk) (acts : List Act) → Stand k d → (desk_after k d acts).count ≡ min 64 (d.count + length (issued_in k d acts))
count_after k d acts h =
    let e = desk_after k d acts in
    let ns = remembered d ++ issued_in k d acts in
    let n = how_many e.count e.numbers in
    let r = ap length (remembered-after k d acts h) in
    let l = length-append (remembered d) (issued_in k d acts) in
    omega (arith, n, r, l, length-drop (length ns - 64) ns, how_many d.count d.numbers)

-- ---- each number differs from the 64 before it; `before` are those issued earlier
unfoldable EachNew : List (List ℕ) → List (List ℕ) → Type 0
EachNew before [] = Unit {0}
EachNew before (n ∷ ns) = Differs n (newest before) × EachNew (before ++ (n ∷ [])) ns

run_new : (k : Keeper) (d : Desk) (acts : List Act) (before : List (List ℕ)) → Stand k d → remembered d ≡ newest before → EachNew before (issued_in k d acts)
unfolding issued_in EachNew acted
run_new k d [] before h e = tt
run_new k d (calls c ∷ more) before h e = run_new _ d more before (acted-stands k d (calls c) h) e
run_new k d (asks now field ∷ more) before h e =
    let x = issue k d now field in
    let rest = issued_in x.keeper x.desk more in
    let s = acted-stands k d (asks now field) h in
    pick_by (λ (ns : List (List ℕ)). EachNew before (ns ++ rest)) (eqb x.issued.answer.number 0)
    (λ t. let n = new_number k d now field h.whole.generator (eqb-true _ 0 t) in
    let kept = ap remembered n.kept ∙ desk_after_lem x.issued.number d h.desk n.long
    ∙ ap (λ (l : List (List ℕ)). newest (l ++ (x.issued.number ∷ []))) e ∙ newest-newest before (x.issued.number ∷ []) in
    (rw (sym e) n.new, run_new x.keeper x.desk more (before ++ (x.issued.number ∷ [])) s kept))
    (λ t. run_new x.keeper x.desk more before s (ap remembered (no_number k d now field (eqb-false _ 0 t)).desk ∙ e))

-- .. at each place
each_at : (before ns : List (List ℕ)) → EachNew before ns → (j : ℕ) → j < length ns → Differs (get_or ns j []) (newest (before ++ take j ns))
unfolding EachNew
each_at before [] h j l = absurd (omega arith)
each_at before (n ∷ ns) h zero l = rw (append-nil before) h.0
each_at before (n ∷ ns) h (suc j) l = rw (sym (append_assoc before (n ∷ []) (take j ns))) (each_at (before ++ (n ∷ [])) ns h.1 j (omega arith))

-- ANY TWO OF THE LAST 65 NUMBERS DIFFER: whatever the desk remembered, two numbers of a run with fewer than 64 others between them
pub last_65 : (k : Keeper) (d : Desk) (acts : List Act) → Stand k d → let ns = issued_in k d acts in
    (i j : ℕ) → i < j → j ≤ i + 64 → j < length ns → get_or ns i [] ≡ get_or ns j [] → ⊥
last_65 k d acts h i j a b l e =
    let ns = issued_in k d acts in
    let old = remembered d in
    let c : length old ≤ 64 = omega (arith, how_many d.count d.numbers, h.desk.counted) in
    let few : length (take j ns) ≡ j = length-take-le j ns (omega arith) in
    let all : length (old ++ take j ns) ≡ length old + j = length-append old (take j ns) ∙ ap (λ (m : ℕ). length old + m) few in
    let m = length (old ++ take j ns) - 64 in
    let t = length old + i - m in
    let at : m + t ≡ length old + i = omega arith in
    let there : get_or (newest (old ++ take j ns)) t [] ≡ get_or ns i [] =
    get_or-drop m (old ++ take j ns) t [] ∙ ap (λ (n : ℕ). get_or (old ++ take j ns) n []) at ∙ get_or-append-add old (take j ns) i [] ∙ get_or-take j ns i [] a in
    let within : t < length (newest (old ++ take j ns)) = omega (arith, length-drop m (old ++ take j ns)) in
    each_at old ns (run_new k d acts old h (sym (all_new old c))) j l t within (there ∙ e)
