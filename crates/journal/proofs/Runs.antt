-- Fields one after another: read back as they were laid out, laid out as they were read, and not touched by what stands behind them.
use mathlib.Core.Path.{◌≡◌, refl, sym}
use mathlib.Core.List.{List, [], ◌∷◌, ◌++◌, append_assoc}
use Prim.Native.Nat.{ℕ, zero, suc, ◌+◌, ◌-◌, ◌^◌, ◌≤◌, ◌<◌}
use native.Mathlib.Omega.{arith}
use lib.ListN.{length, get_or, take, drop, length-append, length-drop}
use lib.Seq.{length-take-le, take-nil, take-take, take_at, drop_at, take-add, get_or-take, get_or-drop}
use Rattle.words.specs.Bytes.{le_bytes, le_number}
use Rattle.words.proofs.Numbers.{length_le_bytes, number_bytes_lem, bytes_number}
use Rattle.journal.specs.Layout.{sum}
use Rattle.journal.specs.Reading.{fields_in}
use Rattle.journal.specs.Writing.{laid, Fit}

-- every element is a byte
abbrev pub Bytes : List ℕ → Type 0
Bytes bs = (i : ℕ) → i < length bs → get_or bs i 0 < 2 ^ 8

pub laid-length : (ws fs : List ℕ) → Fit ws fs → length (laid ws fs) ≡ sum ws
unfolding laid Fit sum
laid-length [] [] h = refl
laid-length [] (f ∷ fs) h = elim h [ ]
laid-length (w ∷ ws) [] h = elim h [ ]
laid-length (w ∷ ws) (f ∷ fs) h = rw (length-append (le_bytes w f) (laid ws fs), length_le_bytes w f, laid-length ws fs h.1)

-- what is laid out is read back
pub read-laid : (ws fs rest : List ℕ) → Fit ws fs → fields_in ws (laid ws fs ++ rest) ≡ fs
unfolding laid fields_in Fit
read-laid [] [] rest h = refl
read-laid [] (f ∷ fs) rest h = elim h [ ]
read-laid (w ∷ ws) [] rest h = elim h [ ]
read-laid (w ∷ ws) (f ∷ fs) rest h =
    let l = length_le_bytes w f in
    rw (append_assoc (le_bytes w f) (laid ws fs) rest, take_at (le_bytes w f) (laid ws fs ++ rest) w l, drop_at (le_bytes w f) (laid ws fs ++ rest) w l, number_bytes_lem w f h.0, read-laid ws fs rest h.1)

-- what is read is laid out as it was
pub laid-read : (ws bs : List ℕ) → sum ws ≤ length bs → Bytes bs → laid ws (fields_in ws bs) ≡ take (sum ws) bs
unfolding laid fields_in sum
laid-read [] bs h b = refl
laid-read (w ∷ ws) bs h b =
    let l : length (take w bs) ≡ w = length-take-le w bs (omega arith) in
    let d : length (drop w bs) ≡ length bs - w = length-drop w bs in
    let n : le_bytes (length (take w bs)) (le_number (take w bs)) ≡ take w bs = bytes_number (take w bs) (λ i k. rw (get_or-take w bs i 0 (omega arith)) (b i (omega arith))) in
    let e : le_bytes w (le_number (take w bs)) ≡ take w bs = rw l at n in
    let r : laid ws (fields_in ws (drop w bs)) ≡ take (sum ws) (drop w bs) = laid-read ws (drop w bs) (omega arith) (λ i k. rw (get_or-drop w bs i 0) (b (w + i) (omega arith))) in
    rw (e, r, take-add w (sum ws) bs)

-- ---- a run of bytes that is cut
pub drop-take : (m n : ℕ) (l : List ℕ) → drop m (take n l) ≡ take (n - m) (drop m l)
drop-take zero n l = let e : n - 0 ≡ n = omega arith in rw e refl
drop-take (suc m) zero l = let e : 0 - suc m ≡ 0 = omega arith in rw e refl
drop-take (suc m) (suc n) [] = sym (take-nil (suc n - suc m))
drop-take (suc m) (suc n) (x ∷ l) = let e : suc n - suc m ≡ n - m = omega arith in rw e (drop-take m n l)

-- what stands before the cut has the same bytes after it
pub payload_cut : (n : ℕ) (j : List ℕ) (at len : ℕ) → at + len ≤ n → take len (drop at (take n j)) ≡ take len (drop at j)
payload_cut n j at len h = rw (drop-take at n j) (take-take len (n - at) (drop at j) (omega arith))

-- bytes behind the fields have no say in them
pub fields_cut : (ws : List ℕ) (n : ℕ) (bs : List ℕ) → sum ws ≤ n → fields_in ws (take n bs) ≡ fields_in ws bs
unfolding fields_in sum
fields_cut [] n bs h = refl
fields_cut (w ∷ ws) n bs h = rw (take-take w n bs (omega arith), drop-take w n bs, fields_cut ws (n - w) (drop w bs) (omega arith))
