-- What a desk remembers once a number more was put into it: the old ones and the number, the last 64 of them. Zeroed memory is an empty desk.
use mathlib.Core.Path.{◌≡◌, refl, sym, ap, ◌∙◌}
use mathlib.Core.Bool.{Bool, true, false}
use mathlib.Core.List.{List, [], ◌∷◌, ◌++◌, append-nil, append_assoc}
use Prim.Native.Nat.{ℕ, zero, suc, ◌+◌, ◌-◌, ◌*◌, ◌≤◌, ◌<◌}
use native.Mathlib.Omega.{arith}
use native.Mathlib.Numerals.{add-one}
use lib.Dec.{ltb}
use lib.ListN.{length, take, drop, replicate, length-drop, length-append, take-append-drop}
use lib.Seq.{sets, sets-eq, take-append-le, drop-append-le, length-take-le, take_at, length-sets}
use borrow.Author.Tests.{lt-ltb, le-ltb, ltb-true, ltb-false}
use Rattle.ledger.specs.Choice.{pick}
use Rattle.ledger.proofs.Picks.{pick_by}
use Rattle.desk.specs.Sizes.{desk_bytes}
use Rattle.desk.specs.Desks.{numbers_in, remembered, desk_of, appended}
use Rattle.desk.specs.Runs.{newest}
use Rattle.desk.specs.declared.Desk.{Desk}

-- a desk that is lent has 1,024 bytes of places, and here a count in range
pub record DeskWhole (d : Desk) : Type 0 where
  pub places : length d.numbers ≡ 1024
  pub counted : d.count ≤ 64

-- as many as are counted
pub how_many : (c : ℕ) (bs : List ℕ) → length (numbers_in c bs) ≡ c
unfolding numbers_in
how_many zero bs = refl
how_many (suc c) bs = ap suc (how_many c (drop 16 bs))

-- what stands behind the first c numbers does not matter for them
front_only : (c : ℕ) (xs ys : List ℕ) → length xs ≡ 16 * c → numbers_in c (xs ++ ys) ≡ numbers_in c xs
unfolding numbers_in
front_only zero xs ys h = refl
front_only (suc c) xs ys h =
    let l : 16 ≤ length xs = omega arith in
    let e : length (drop 16 xs) ≡ 16 * c = omega (arith, length-drop 16 xs) in
    rw (take-append-le 16 xs ys l, drop-append-le 16 xs ys l) (ap (λ (ms : List (List ℕ)). take 16 xs ∷ ms) (front_only c (drop 16 xs) ys e))

-- one number more behind c
one_more : (c : ℕ) (xs n rest : List ℕ) → length xs ≡ 16 * c → length n ≡ 16 → numbers_in (suc c) (xs ++ (n ++ rest)) ≡ numbers_in c xs ++ (n ∷ [])
unfolding numbers_in
one_more zero [] n rest h l = ap (λ (m : List ℕ). m ∷ []) (take_at n rest 16 l)
one_more zero (x ∷ xs) n rest h l = absurd (omega arith)
one_more (suc c) xs n rest h l =
    let i : 16 ≤ length xs = omega arith in
    let e : length (drop 16 xs) ≡ 16 * c = omega (arith, length-drop 16 xs) in
    rw (take-append-le 16 xs (n ++ rest) i, drop-append-le 16 xs (n ++ rest) i) (ap (λ (ms : List (List ℕ)). take 16 xs ∷ ms) (one_more c (drop 16 xs) n rest e l))

-- a desk with room
with_room : (n : List ℕ) (d : Desk) → length d.numbers ≡ 1024 → length n ≡ 16 → d.count < 64 → remembered (appended n d) ≡ remembered d ++ (n ∷ [])
unfolding appended pick
with_room n d h l r =
    let c = d.count in
    let ns = d.numbers in
    let front : length (take (16 * c) ns) ≡ 16 * c = length-take-le (16 * c) ns (omega arith) in
    let s : sets ns (16 * c) n ≡ take (16 * c) ns ++ (n ++ drop (16 * c + length n) ns) = sets-eq n ns (16 * c) (omega arith) ∙ append_assoc (take (16 * c) ns) n _ in
    let t : numbers_in c (take (16 * c) ns) ≡ numbers_in c ns = sym (front_only c (take (16 * c) ns) (drop (16 * c) ns) front) ∙ ap (numbers_in c) (take-append-drop (16 * c) ns) in
    rw (lt-ltb c 64 r, add-one, s) (one_more c (take (16 * c) ns) n _ front l ∙ ap (λ (ms : List (List ℕ)). ms ++ (n ∷ [])) t)

-- a full desk, without its oldest
full : (n : List ℕ) (d : Desk) → length d.numbers ≡ 1024 → length n ≡ 16 → d.count ≡ 64 → remembered (appended n d) ≡ drop 1 (remembered d) ++ (n ∷ [])
unfolding appended pick numbers_in
full n d h l r =
    let ns = d.numbers in
    let e : length (drop 16 ns) ≡ 16 * 63 = omega (arith, length-drop 16 ns) in
    let b : 64 ≤ d.count = omega arith in
    rw (le-ltb d.count 64 b, r) (ap (λ (m : List ℕ). numbers_in 64 (drop 16 ns ++ m)) (sym (append-nil n)) ∙ one_more 63 (drop 16 ns) n [] e l)

-- fewer than 65 are all among the last 64
pub all_new : (ms : List (List ℕ)) → length ms ≤ 64 → newest ms ≡ ms
all_new ms h = let e : length ms - 64 ≡ 0 = omega arith in ap (λ (i : ℕ). drop i ms) e

-- THE DESK AFTERWARDS
pub desk_after_lem : (n : List ℕ) (d : Desk) → DeskWhole d → length n ≡ 16 → remembered (appended n d) ≡ newest (remembered d ++ (n ∷ []))
desk_after_lem n d w l = go (ltb d.count 64) refl
  where
    ms : List (List ℕ)
    ms = remembered d

    long : length (ms ++ (n ∷ [])) ≡ d.count + 1
    long = length-append ms (n ∷ []) ∙ ap (λ (i : ℕ). i + 1) (how_many d.count d.numbers)

    go : (t : Bool) → ltb d.count 64 ≡ t → remembered (appended n d) ≡ newest (ms ++ (n ∷ []))
    go true e =
        let r = ltb-true d.count 64 e in
        with_room n d w.places l r ∙ sym (all_new (ms ++ (n ∷ [])) (omega (arith, long)))
    go false e =
        let f = ltb-false d.count 64 e in
        let r : d.count ≡ 64 = omega (arith, w.counted) in
        let i : length (ms ++ (n ∷ [])) - 64 ≡ 1 = omega (arith, long) in
        let some : 1 ≤ length ms = omega (arith, how_many d.count d.numbers) in
        full n d w.places l r ∙ sym (ap (λ (j : ℕ). drop j (ms ++ (n ∷ []))) i ∙ drop-append-le 1 ms (n ∷ []) some)

-- the desk stays whole
pub appended_whole : (n : List ℕ) (d : Desk) → DeskWhole d → length n ≡ 16 → DeskWhole (appended n d)
unfolding appended
appended_whole n d w l =
    pick_by DeskWhole (ltb d.count 64)
    (λ e. let r = ltb-true d.count 64 e in record { places = length-sets d.numbers (16 * d.count) n ∙ w.places; counted = omega arith })
    (λ e. record { places = length-append (drop 16 d.numbers) n ∙ omega (arith, length-drop 16 d.numbers, w.places, l); counted = w.counted })

-- ZEROED MEMORY is a desk that remembers nothing
pub zeroed : remembered (desk_of 0 (replicate desk_bytes 0)) ≡ []
unfolding numbers_in
zeroed = refl
