-- Records written one after another are walked as they were written; and a walk's records, written one after another, are its bytes.
use mathlib.Core.Path.{◌≡◌, refl, sym, ap, ap₂, ◌∙◌}
use mathlib.Core.List.{List, [], ◌∷◌, ◌++◌, map, append_assoc, append-nil}
use Prim.Native.Nat.{ℕ, ◌+◌, ◌-◌}
use native.Mathlib.Omega.{arith}
use lib.ListN.{length, drop, length-append, take-append-drop}
use lib.Seq.{drop-drop, drop-append_seam, take-append_seam, drop-append-add}
use Rattle.journal.specs.Layout.{carries}
use Rattle.journal.specs.Writing.{head_of, bytes_of, carried_by, Writable, Said, said_at, said_in, written, AllWritable}
use Rattle.journal.specs.Walking.{Entry, Walk, walk}
use Rattle.journal.specs.declared.records.Record.{Record}
use Rattle.journal.proofs.Cut.{past}
use Rattle.journal.proofs.Runs.{Bytes}
use Rattle.journal.proofs.Onward.{read_ahead}
use Rattle.journal.proofs.Walks.{along_walk, walk_one, walk_end}
use Rattle.journal.proofs.Written.{read-written, written_read}

-- A WALK'S RECORDS are the bytes from where it begins to where it stops
pub bytes_walked : (v : ℕ) (j : List ℕ) → Bytes j → (at : ℕ) → drop at j ≡ written v (said_in j (walk v j at).entries) ++ drop (walk v j at).stop j
unfolding written said_at
bytes_walked v j b =
    along_walk v j (λ at w. drop at j ≡ written v (said_in j w.entries) ++ drop w.stop j)
    (λ at r next e on.
    let a = (read_ahead v j at r next e).0 in
    let n : at + (next - at) ≡ next = omega (arith, a) in
    let d : drop (next - at) (drop at j) ≡ drop next j = drop-drop (next - at) at j ∙ ap (λ (i : ℕ). drop i j) n in
    sym (take-append-drop (next - at) (drop at j)) ∙ ap₂ ◌++◌ (written_read v j at r next b e) (d ∙ on)
    ∙ sym (append_assoc (bytes_of v r (carried_by j r next)) (written v (said_in j (walk v j next).entries)) (drop (walk v j next).stop j)))
    (λ at m. refl)

-- the bytes that a written record carries are those that it was written with
pub carried-written : (v : ℕ) (before : List ℕ) (r : Record) (carried rest : List ℕ) → Writable v r carried
    → carried_by (before ++ (bytes_of v r carried ++ rest)) r (length before + length (bytes_of v r carried)) ≡ carried
unfolding carried_by bytes_of
carried-written v before r carried rest w =
    let h = head_of v r in
    let c = w.bytes in
    let l : length (h ++ carried) ≡ length h + length carried = length-append h carried in
    let n : length before + length (h ++ carried) - carries r ≡ length before + length h = omega arith in
    let d : drop (length before + length h) (before ++ ((h ++ carried) ++ rest)) ≡ carried ++ rest =
    drop-append-add before ((h ++ carried) ++ rest) (length h) ∙ ap (drop (length h)) (append_assoc h carried rest) ∙ drop-append_seam h (carried ++ rest) in
    rw (n, d, ← c) (take-append_seam carried rest)

-- RECORDS WRITTEN one after another behind anything are walked whole, and the walk ends with 0
pub record Walked (v : ℕ) (before : List ℕ) (ss : List Said) (w : Walk) : Type 0 where
  pub records : map (λ (e : Entry). e.what) w.entries ≡ map (λ (s : Said). s.what) ss
  pub said : said_in (before ++ written v ss) w.entries ≡ ss
  pub stop : w.stop ≡ length before + length (written v ss)
  pub number : w.number ≡ 0

pub walk-written : (v : ℕ) (before : List ℕ) (ss : List Said) → AllWritable v ss → Walked v before ss (walk v (before ++ written v ss) (length before))
unfolding written AllWritable said_at
walk-written v before [] h =
    let l : length (before ++ []) ≡ length before = ap length (append-nil before) in
    let e = walk_end v (before ++ []) (length before) (past v (before ++ []) (length before) (omega arith)) in
    rw e (record { records = refl; said = refl; stop = omega arith; number = refl })
walk-written v before (s ∷ ss) h =
    let bs = bytes_of v s.what s.carried in
    let rest = written v ss in
    let e = walk_one v (before ++ (bs ++ rest)) (length before) s.what (length before + length bs) (read-written v before s.what s.carried rest h.0) in
    let a : (before ++ bs) ++ rest ≡ before ++ (bs ++ rest) = append_assoc before bs rest in
    let l : length (before ++ bs) ≡ length before + length bs = length-append before bs in
    let m : length (bs ++ rest) ≡ length bs + length rest = length-append bs rest in
    let i : Walked v (before ++ bs) ss (walk v (before ++ (bs ++ rest)) (length before + length bs)) = rw (a, l) at (walk-written v (before ++ bs) ss h.1) in
    rw e
    (record {
      records = ap (λ (rs : List Record). s.what ∷ rs) i.records;
      said = ap₂ (λ (c : List ℕ) (xs : List Said). record { what = s.what; carried = c } ∷ xs) (carried-written v before s.what s.carried rest h.0) (rw a at i.said);
      stop = i.stop ∙ omega arith;
      number = i.number;
    })
