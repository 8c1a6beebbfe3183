-- Two lists are the same where no element tells them apart.
use mathlib.Core.Path.{◌≡◌, refl, ap, ap₂, ◌∙◌}
use mathlib.Core.Bool.{Bool, true, false, ◌&&◌}
use mathlib.Core.List.{List, [], ◌∷◌}
use Prim.Native.Nat.{ℕ}
use native.Mathlib.Omega.{arith}
use borrow.Author.Tests.{eq-eqb, eqb-true}
use lib.Dec.{eqb}
use Rattle.std.specs.Cmp.Lexicographic.{pointwise}
use Rattle.ledger.specs.Choice.{pick}
use Rattle.ledger.proofs.Picks.{and_left, and_right, both}
use Rattle.index.specs.Summary.{index}
use Rattle.index.specs.Calls.{same, same_index}
use Rattle.index.specs.declared.summary.Index.{Index}

-- SAME says so exactly of equal lists
pub same_self : (a : List ℕ) → same a a ≡ true
unfolding same pick
same_self [] = refl
same_self (x ∷ xs) = rw (eq-eqb x x refl) (same_self xs)

one_by_one : (x y : ℕ) (xs ys : List ℕ) → (same xs ys ≡ true → xs ≡ ys) → (t : Bool) → eqb x y ≡ t → pick t (same xs ys) false ≡ true → x ∷ xs ≡ y ∷ ys
unfolding pick
one_by_one x y xs ys on true e k = ap₂ (λ (u : ℕ) (v : List ℕ). u ∷ v) (eqb-true x y e) (on k)
one_by_one x y xs ys on false e k = let z : ◌≡◌ {A = ℕ} 0 1 = cc in absurd (omega arith)

pub same_equal : (a b : List ℕ) → same a b ≡ true → a ≡ b
unfolding same
same_equal [] [] h = refl
same_equal [] (y ∷ ys) h = let z : ◌≡◌ {A = ℕ} 0 1 = cc in absurd (omega arith)
same_equal (x ∷ xs) [] h = let z : ◌≡◌ {A = ℕ} 0 1 = cc in absurd (omega arith)
same_equal (x ∷ xs) (y ∷ ys) h = one_by_one x y xs ys (same_equal xs ys) (eqb x y) refl h

-- and is what the library's comparison of two lists says
and_pick : (t b : Bool) → (t && b) ≡ pick t b false
unfolding pick
and_pick true b = refl
and_pick false b = refl

pub pointwise_same : (a b : List ℕ) → pointwise eqb a b ≡ same a b
unfolding same
pointwise_same [] [] = refl
pointwise_same [] (y ∷ ys) = refl
pointwise_same (x ∷ xs) [] = refl
pointwise_same (x ∷ xs) (y ∷ ys) = and_pick (eqb x y) (pointwise eqb xs ys) ∙ ap (λ (t : Bool). pick (eqb x y) t false) (pointwise_same xs ys)

-- THE SAME of indexes: exactly equal ones
pub index_self : (a : Index) → same_index a a ≡ true
unfolding same_index
index_self a =
    both (same a.places a.places) (same a.kinds a.kinds && eqb a.reads a.reads) (same_self a.places)
    (both (same a.kinds a.kinds) (eqb a.reads a.reads) (same_self a.kinds) (eq-eqb a.reads a.reads refl))

pub index_equal : (a b : Index) → same_index a b ≡ true → a ≡ b
unfolding same_index
index_equal a b h =
    let r = and_right (same a.places b.places) (same a.kinds b.kinds && eqb a.reads b.reads) h in
    let p = same_equal a.places b.places (and_left (same a.places b.places) (same a.kinds b.kinds && eqb a.reads b.reads) h) in
    let k = same_equal a.kinds b.kinds (and_left (same a.kinds b.kinds) (eqb a.reads b.reads) r) in
    let s = eqb-true a.reads b.reads (and_right (same a.kinds b.kinds) (eqb a.reads b.reads) r) in
    let e : index a.places a.kinds a.reads ≡ index b.places b.kinds b.reads = rw (p, k, s) refl in
    e

-- .. so what is derived for an index tells whether it is the same
pub derived : (a b : Index) → (pointwise eqb a.places b.places && (pointwise eqb a.kinds b.kinds && eqb a.reads b.reads)) ≡ same_index a b
unfolding same_index
derived a b = rw (pointwise_same a.places b.places, pointwise_same a.kinds b.kinds) refl
