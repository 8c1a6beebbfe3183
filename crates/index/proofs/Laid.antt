-- What is found of each number, laid into a room one by one.
use mathlib.Core.Path.{◌≡◌, refl, sym, ap, ◌∙◌}
use mathlib.Core.List.{List, [], ◌∷◌, map}
use Prim.Native.Nat.{ℕ, zero, suc, ◌+◌, ◌≤◌, ◌<◌}
use native.Mathlib.Omega.{arith}
use lib.ListN.{length, get_or, set, take, length-map}
use lib.Seq.{sets, take_all}
use Rattle.words.proofs.Rooms.{sets-suc}

get_or_of_map : (f : ℕ → ℕ) (l : List ℕ) (i : ℕ) → i < length l → get_or (map f l) i 0 ≡ f (get_or l i 0)
get_or_of_map f [] i h = absurd (omega (arith, h))
get_or_of_map f (x ∷ l) zero h = refl
get_or_of_map f (x ∷ l) (suc i) h = get_or_of_map f l i (omega (arith, h))

module _ (f : ℕ → ℕ) (numbers room : List ℕ) (i : ℕ) where
  pub one_more : i < length numbers → (v : ℕ) → v ≡ f (get_or numbers i 0) → (now : List ℕ) → now ≡ sets room 0 (take i (map f numbers))
      → set now i v ≡ sets room 0 (take (i + 1) (map f numbers))
  one_more h v e now n =
      let s : i + 1 ≡ suc i = omega arith in
      let z : 0 + i ≡ i = omega arith in
      let g : v ≡ get_or (map f numbers) i 0 = e ∙ sym (get_or_of_map f numbers i h) in
      let l : i < length (map f numbers) = omega (arith, h, length-map numbers f) in
      rw (n, g, s) (rw z at (sets-suc room 0 (map f numbers) i l))

  pub all_laid : length numbers ≤ i → sets room 0 (take i (map f numbers)) ≡ sets room 0 (map f numbers)
  all_laid h = ap (sets room 0) (take_all i (map f numbers) (omega (arith, h, length-map numbers f)))
