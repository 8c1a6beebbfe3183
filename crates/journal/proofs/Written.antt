-- What is written is read back, and what was read is what was written.
use mathlib.Core.Path.{◌≡◌, refl, ap, ap₂, ◌∙◌}
use mathlib.Core.Bool.{false}
use mathlib.Core.List.{List, [], ◌∷◌, ◌++◌, append_assoc}
use Prim.Native.Nat.{ℕ, zero, suc, ◌+◌, ◌-◌}
use native.Mathlib.Omega.{arith}
use borrow.Author.Tests.{le-ltb, ne_eqb, eqb-false}
use lib.Dec.{eqb}
use lib.ListN.{length, get_or, take, drop, length-append, length-drop}
use lib.Seq.{drop-append_seam, get_or-drop, drop-cons, take-add, drop-drop}
use Rattle.ledger.specs.Choice.{pick}
use Rattle.ledger.specs.Sizes.{longest}
use Rattle.journal.specs.Layout.{widths, sum, kind_of, fields_of, record_of, carries}
use Rattle.journal.specs.Reading.{fields_in, carrying, opened, front, read_at}
use Rattle.journal.specs.Writing.{laid, head_of, bytes_of, carried_by, Fit, Writable}
use Rattle.journal.specs.declared.records.Record.{Record}
use Rattle.journal.specs.declared.records.Record.TheVariants.{Event, Interrupt, Write, Seed, Read, BlockingRead}
use Rattle.journal.specs.Found.{One}
use Rattle.journal.proofs.Runs.{Bytes, read-laid, laid-read, laid-length}
use Rattle.journal.proofs.Onward.{stands}

-- a record is its kind and its fields
pub record_fields : (r : Record) → record_of (kind_of r) (fields_of r) ≡ r
unfolding record_of kind_of fields_of
record_fields (Event now device stamp value) = refl
record_fields (Interrupt now number stamp address) = refl
record_fields (Write now len) = refl
record_fields (Seed now len credit) = refl
record_fields (Read now len) = refl
record_fields (BlockingRead now len) = refl

-- every record has a field
some : (r : Record) → fields_of r ≡ [] → ⊥
unfolding fields_of
some (Event now device stamp value) e = let z : ◌≡◌ {A = ℕ} 0 1 = cc in omega arith
some (Interrupt now number stamp address) e = let z : ◌≡◌ {A = ℕ} 0 1 = cc in omega arith
some (Write now len) e = let z : ◌≡◌ {A = ℕ} 0 1 = cc in omega arith
some (Seed now len credit) e = let z : ◌≡◌ {A = ℕ} 0 1 = cc in omega arith
some (Read now len) e = let z : ◌≡◌ {A = ℕ} 0 1 = cc in omega arith
some (BlockingRead now len) e = let z : ◌≡◌ {A = ℕ} 0 1 = cc in omega arith

fitting : (ws fs : List ℕ) → Fit ws fs → (fs ≡ [] → ⊥) → eqb (length ws) 0 ≡ false
unfolding Fit
fitting [] [] h n = absurd (n refl)
fitting [] (f ∷ fs) h n = absurd h
fitting (w ∷ ws) fs h n = ne_eqb (suc (length ws)) 0 (λ q. omega (arith, q))

-- so a kind that is held is known
held : (v : ℕ) (r : Record) → Fit (widths v (kind_of r)) (fields_of r) → eqb (length (widths v (kind_of r))) 0 ≡ false
held v r h = fitting (widths v (kind_of r)) (fields_of r) h (some r)

-- a record's bytes at the front
front-written : (v at : ℕ) (r : Record) (carried rest : List ℕ) → Writable v r carried
    → front v at (bytes_of v r carried ++ rest) ≡ One r (at + length (bytes_of v r carried))
unfolding front opened carrying head_of bytes_of pick
front-written v at r carried rest w =
    let ws = widths v (kind_of r) in
    let fs = fields_of r in
    let c = w.bytes in
    let f = w.few in
    let l : length (laid ws fs) ≡ sum ws = laid-length ws fs w.fields in
    let n : length (laid ws fs ++ carried) ≡ sum ws + carries r = length-append (laid ws fs) carried ∙ ap₂ ◌+◌ l c in
    let m : length ((laid ws fs ++ carried) ++ rest) ≡ sum ws + carries r + length rest = length-append (laid ws fs ++ carried) rest ∙ ap (λ (k : ℕ). k + length rest) n in
    let a : fields_in ws ((laid ws fs ++ carried) ++ rest) ≡ fs = rw (append_assoc (laid ws fs) carried rest) (read-laid ws fs (carried ++ rest) w.fields) in
    let e : at + 1 + sum ws + carries r ≡ at + suc (length (laid ws fs ++ carried)) = omega (arith, n) in
    rw (a, record_fields r, held v r w.fields, m, le-ltb (sum ws + carries r + length rest) (sum ws) (omega arith), le-ltb longest (carries r) f, le-ltb (sum ws + carries r + length rest - sum ws) (carries r) (omega arith))
    (ap (One r) e)

-- WHAT IS WRITTEN IS READ BACK, whatever stands before and behind it
pub read-written : (v : ℕ) (before : List ℕ) (r : Record) (carried rest : List ℕ) → Writable v r carried
    → read_at v (before ++ (bytes_of v r carried ++ rest)) (length before) ≡ One r (length before + length (bytes_of v r carried))
unfolding read_at
read-written v before r carried rest w =
    ap (front v (length before)) (drop-append_seam before (bytes_of v r carried ++ rest)) ∙ front-written v (length before) r carried rest w

-- a kind that is known, with fields of its widths, is a record of that kind and those fields
pub kind_and_fields : (v kind : ℕ) (bs : List ℕ) → eqb (length (widths v kind)) 0 ≡ false
    → (kind_of (record_of kind (fields_in (widths v kind) bs)) ≡ kind) × (fields_of (record_of kind (fields_in (widths v kind) bs)) ≡ fields_in (widths v kind) bs)
unfolding widths record_of kind_of fields_of fields_in
kind_and_fields v zero bs h = absurd (eqb-false 0 0 h refl)
kind_and_fields v (suc zero) bs h = (refl, refl)
kind_and_fields v (suc (suc zero)) bs h = (refl, refl)
kind_and_fields v (suc (suc (suc zero))) bs h = (refl, refl)
kind_and_fields v (suc (suc (suc (suc zero)))) bs h = (refl, refl)
kind_and_fields v (suc (suc (suc (suc (suc zero))))) bs h = (refl, refl)
kind_and_fields v (suc (suc (suc (suc (suc (suc zero)))))) bs h = (refl, refl)
kind_and_fields v (suc (suc (suc (suc (suc (suc (suc k))))))) bs h = absurd (eqb-false 0 0 h refl)

-- A RECORD THAT WAS READ is the bytes that it was read from
pub written_read : (v : ℕ) (j : List ℕ) (at : ℕ) (r : Record) (next : ℕ) → Bytes j → read_at v j at ≡ One r next
    → take (next - at) (drop at j) ≡ bytes_of v r (carried_by j r next)
unfolding head_of bytes_of carried_by
written_read v j at r next b e =
    let s = stands v j at r next e in
    let w = s.whole in
    let k = get_or j at 0 in
    let bs = drop (suc at) j in
    let ws = widths v k in
    let f = kind_and_fields v k bs w.known in
    let ek : kind_of r ≡ k = ap kind_of w.same ∙ f.0 in
    let ef : fields_of r ≡ fields_in ws bs = ap fields_of w.same ∙ f.1 in
    let n : next - at ≡ suc (sum ws + carries r) = omega (arith, w.after) in
    let m : next - carries r ≡ suc at + sum ws = omega (arith, w.after) in
    let l : length bs ≡ length j - suc at = length-drop (suc at) j in
    let i : laid ws (fields_in ws bs) ≡ take (sum ws) bs = laid-read ws bs (omega (arith, w.there)) (λ i h. rw (get_or-drop (suc at) j i 0) (b (suc at + i) (omega (arith, h, l)))) in
    rw (n, m, drop-cons j at 0 s.within, ek, ef, i, take-add (sum ws) (carries r) bs, drop-drop (sum ws) (suc at) j) refl
