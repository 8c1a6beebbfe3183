-- The file of an index, laid part by part.
use mathlib.Core.Path.{◌≡◌, refl, sym, ap, ◌∙◌}
use mathlib.Core.List.{List, [], ◌∷◌, ◌++◌}
use Prim.Native.Nat.{ℕ, suc, ◌+◌, ◌*◌, ◌≤◌, ◌<◌, min}
use native.Mathlib.Omega.{arith}
use lib.ListN.{length, get_or, take, drop, length-append}
use lib.Seq.{sets, sets-eq, length-take-le, take_all, take-append_seam}
use Rattle.journal.proofs.Sides.{by_less}
use Rattle.words.specs.Bytes.{le_bytes, words_bytes}
use Rattle.words.proofs.Numbers.{length_le_bytes, length-words_bytes, words_bytes-suc, words_bytes-append}
use Rattle.words.proofs.Rooms.{sets-append}
use Rattle.index.specs.Filing.{used, file_of}
use Rattle.index.specs.declared.summary.Index.{Index}

-- a word more, behind those before it
pub one_word_more : (l ws : List ℕ) (at i : ℕ) → i < length ws → (room : List ℕ) → room ≡ sets l at (words_bytes (take i ws))
    → sets room (at + 4 * i) (le_bytes 4 (get_or ws i 0)) ≡ sets l at (words_bytes (take (i + 1) ws))
one_word_more l ws at i h room e =
    let n : i + 1 ≡ suc i = omega arith in
    let k : at + 4 * i ≡ at + length (words_bytes (take i ws)) = omega (arith, length-words_bytes (take i ws), length-take-le i ws (omega arith)) in
    rw (e, n, k, words_bytes-suc ws i h) (sets-append l at (words_bytes (take i ws)) (le_bytes 4 (get_or ws i 0)))

-- THE FILE, part by part: the mark and the version, the counts, the sum, the places
module _ (ix : Index) (n : ℕ) (six : length ix.kinds ≡ 6) (all : length ix.places ≡ 138) (e : n ≡ min (used ix.kinds) 138) where
  same_places : take n ix.places ≡ take (used ix.kinds) ix.places
  same_places = by_less (used ix.kinds) 138
      (λ h. let k : n ≡ used ix.kinds = omega (arith, e, h) in ap (λ (m : ℕ). take m ix.places) k)
      (λ h. let k : n ≡ 138 = omega (arith, e, h) in
      take_all n ix.places (omega (arith, all, k)) ∙ sym (take_all (used ix.kinds) ix.places (omega (arith, all, h))))

  parts : file_of ix ≡ (78 ∷ 75 ∷ 73 ∷ 1 ∷ 0 ∷ []) ++ (words_bytes ix.kinds ++ (le_bytes 4 ix.reads ++ words_bytes (take n ix.places)))
  unfolding file_of words_bytes le_bytes
  parts = rw (← same_places, words_bytes-append ix.kinds (ix.reads ∷ take n ix.places)) refl

  pub file_length : 33 + 4 * n ≡ length (file_of ix)
  file_length =
      let k = words_bytes ix.kinds in
      let r = le_bytes 4 ix.reads in
      let p = words_bytes (take n ix.places) in
      let a = length-append k (r ++ p) in
      let b = length-append r p in
      let c = length-words_bytes ix.kinds in
      let d = length-words_bytes (take n ix.places) in
      let f = length-take-le n ix.places (omega (arith, e, all)) in
      let g = length_le_bytes 4 ix.reads in
      rw parts (omega (arith, a, b, c, d, f, g, six))

  pub laid_file : (room a b c d : List ℕ) → a ≡ sets room 0 (78 ∷ 75 ∷ 73 ∷ 1 ∷ 0 ∷ []) → b ≡ sets a 5 (words_bytes ix.kinds) → c ≡ sets b 29 (le_bytes 4 ix.reads)
      → d ≡ sets c 33 (words_bytes (take n ix.places)) → d ≡ sets room 0 (file_of ix)
  laid_file room a b c d p q r s =
      let k = words_bytes ix.kinds in
      let x = le_bytes 4 ix.reads in
      let y = words_bytes (take n ix.places) in
      let lk : length k ≡ 24 = omega (arith, length-words_bytes ix.kinds, six) in
      let lx : length x ≡ 4 = length_le_bytes 4 ix.reads in
      let e3 : 33 ≡ 29 + length x = omega (arith, lx) in
      let e2 : 29 ≡ 5 + length k = omega (arith, lk) in
      let s3 : d ≡ sets b 29 (x ++ y) = s ∙ rw (r, e3) (sets-append b 29 x y) in
      let s2 : d ≡ sets a 5 (k ++ (x ++ y)) = s3 ∙ rw (q, e2) (sets-append a 5 k (x ++ y)) in
      s2 ∙ rw (p, parts) (sets-append room 0 (78 ∷ 75 ∷ 73 ∷ 1 ∷ 0 ∷ []) (k ++ (x ++ y)))

-- what is laid at the start of a room is there
pub take_file : (room text : List ℕ) (n : ℕ) (left : List ℕ) → left ≡ sets room 0 text → n ≡ length text → n ≤ length room → take n left ≡ text
take_file room text n left l e h =
    let z : 0 + length text ≡ length text = omega arith in
    rw (l, e, sets-eq text room 0 (omega (arith, h, e)), z) (take-append_seam text (drop (length text) room))
