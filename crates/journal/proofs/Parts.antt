-- What the proofs of the code share: an event's device, the fields of each kind, and what stands at a position. Each law has the direction of
-- the goal that it closes.
use mathlib.Core.Path.{◌≡◌, refl, sym, ap, ap₂, ◌∙◌}
use mathlib.Core.Bool.{false}
use mathlib.Core.List.{List, [], ◌∷◌}
use Prim.Native.Nat.{ℕ, zero, suc, ◌+◌, ◌-◌, ◌≤◌, ◌<◌}
use native.Mathlib.Omega.{arith}
use borrow.Author.Tests.{lt-ltb, le-ltb, ne_eqb}
use lib.Dec.{eqb}
use lib.ListN.{length, get_or, take, drop, length-drop}
use lib.Seq.{drop-cons, drop-drop}
use Rattle.ledger.specs.Choice.{pick}
use Rattle.ledger.specs.Numbers.{cut_short, unknown_kind}
use Rattle.words.specs.Bytes.{le_number}
use Rattle.journal.specs.Layout.{device_bytes, widths, sum, record_of, carries}
use Rattle.journal.specs.Reading.{num, fields_in, carrying, opened, read_at}
use Rattle.journal.specs.declared.records.Record.{Record}
use Rattle.journal.specs.declared.records.Record.TheVariants.{Event, Interrupt, Write, Seed, Read, BlockingRead}
use Rattle.journal.specs.Found.{Found, One, Stop}
use Rattle.journal.proofs.Onward.{opens}

-- ---- numbers
num_1 : (j : List ℕ) (at : ℕ) → num 1 j at ≡ get_or j at 0
unfolding le_number
num_1 [] zero = refl
num_1 [] (suc at) = refl
num_1 (b ∷ j) zero = omega arith
num_1 (b ∷ j) (suc at) = num_1 j at

-- ---- the bytes of a number one by one
next : (n k m : ℕ) (j : List ℕ) → k < length j → m ≡ suc k → take (suc n) (drop k j) ≡ get_or j k 0 ∷ take n (drop m j)
next n k m j h e = rw (e, drop-cons j k 0 h) refl

module _ (j : List ℕ) (at : ℕ) where
  pub two_there : at + 2 ≤ length j → get_or j at 0 ∷ get_or j (at + 1) 0 ∷ [] ≡ take 2 (drop at j)
  two_there h = sym (rw (next 1 at (at + 1) j (omega arith) (omega arith), next 0 (at + 1) (at + 2) j (omega arith) (omega arith)) refl)

  pub four_there : at + 4 ≤ length j → get_or j at 0 ∷ get_or j (at + 1) 0 ∷ get_or j (at + 2) 0 ∷ get_or j (at + 3) 0 ∷ [] ≡ take 4 (drop at j)
  four_there h =
      sym (rw (next 3 at (at + 1) j (omega arith) (omega arith), next 2 (at + 1) (at + 2) j (omega arith) (omega arith), next 1 (at + 2) (at + 3) j (omega arith) (omega arith), next 0 (at + 3) (at + 4) j (omega arith) (omega arith)) refl)

  pub eight_there : at + 8 ≤ length j
      → get_or j at 0 ∷ get_or j (at + 1) 0 ∷ get_or j (at + 2) 0 ∷ get_or j (at + 3) 0 ∷ get_or j (at + 4) 0 ∷ get_or j (at + 5) 0 ∷ get_or j (at + 6) 0 ∷ get_or j (at + 7) 0 ∷ [] ≡ take 8 (drop at j)
  eight_there h =
      sym (rw (next 7 at (at + 1) j (omega arith) (omega arith), next 6 (at + 1) (at + 2) j (omega arith) (omega arith), next 5 (at + 2) (at + 3) j (omega arith) (omega arith), next 4 (at + 3) (at + 4) j (omega arith) (omega arith), next 3 (at + 4) (at + 5) j (omega arith) (omega arith), next 2 (at + 5) (at + 6) j (omega arith) (omega arith), next 1 (at + 6) (at + 7) j (omega arith) (omega arith), next 0 (at + 7) (at + 8) j (omega arith) (omega arith)) refl)

-- a device's
pub narrow : (v : ℕ) → v ≡ 1 → 1 ≡ device_bytes v
unfolding device_bytes pick
narrow v e = rw e refl

pub broad : (v : ℕ) → (v ≡ 1 → ⊥) → 2 ≡ device_bytes v
unfolding device_bytes pick
broad v e = rw (ne_eqb v 1 e) refl

module _ (v : ℕ) (j : List ℕ) (at r : ℕ) where
  pub narrow_device : v ≡ 1 → r ≡ get_or j at 0 → r ≡ num (device_bytes v) j at
  narrow_device e q = rw (← narrow v e) (q ∙ sym (num_1 j at))

  pub broad_device : (v ≡ 1 → ⊥) → r ≡ num 2 j at → r ≡ num (device_bytes v) j at
  broad_device e q = rw (← broad v e) q

-- ---- a kind in a version: its fields are s bytes, and make a record, which carries n bytes
pub record Kind (v kind s n : ℕ) (j : List ℕ) (at : ℕ) (r : Record) : Type 0 where
  pub known : eqb (length (widths v kind)) 0 ≡ false
  pub size : sum (widths v kind) ≡ s
  pub same : record_of kind (fields_in (widths v kind) (drop (at + 1) j)) ≡ r
  pub bytes : carries r ≡ n

module _ (v : ℕ) (j : List ℕ) (at : ℕ) where
  on : (k n m : ℕ) → k + n ≡ m → drop n (drop (at + k) j) ≡ drop (at + m) j
  on k n m e = let q : at + k + n ≡ at + m = omega arith in drop-drop n (at + k) j ∙ ap (λ (i : ℕ). drop i j) q

  pub event_kind : Kind v 1 (16 + device_bytes v) 0 j at (Event (num 4 j (at + 1)) (num (device_bytes v) j (at + 5)) (num 8 j (at + 5 + device_bytes v)) (num 4 j (at + 13 + device_bytes v)))
  unfolding record_of fields_in widths sum carries
  event_kind =
      let w = device_bytes v in
      let e : at + 5 + w + 8 ≡ at + 13 + w = omega arith in
      record {
        known = refl;
        size = omega arith;
        same = rw (on 1 4 5 refl, drop-drop w (at + 5) j, drop-drop 8 (at + 5 + w) j, e) refl;
        bytes = refl;
      }

  pub interrupt_kind : Kind v 2 24 0 j at (Interrupt (num 4 j (at + 1)) (num 4 j (at + 5)) (num 8 j (at + 9)) (num 8 j (at + 17)))
  unfolding record_of fields_in widths sum carries
  interrupt_kind = record { known = refl; size = refl; same = rw (on 1 4 5 refl, on 5 4 9 refl, on 9 8 17 refl) refl; bytes = refl }

  pub write_kind : Kind v 3 6 (num 2 j (at + 5)) j at (Write (num 4 j (at + 1)) (num 2 j (at + 5)))
  unfolding record_of fields_in widths sum carries
  write_kind = record { known = refl; size = refl; same = rw (on 1 4 5 refl) refl; bytes = refl }

  pub seed_kind : Kind v 4 10 (num 2 j (at + 5)) j at (Seed (num 4 j (at + 1)) (num 2 j (at + 5)) (num 4 j (at + 7)))
  unfolding record_of fields_in widths sum carries
  seed_kind = record { known = refl; size = refl; same = rw (on 1 4 5 refl, on 5 2 7 refl) refl; bytes = refl }

  pub read_kind : Kind v 5 6 0 j at (Read (num 4 j (at + 1)) (num 2 j (at + 5)))
  unfolding record_of fields_in widths sum carries
  read_kind = record { known = refl; size = refl; same = rw (on 1 4 5 refl) refl; bytes = refl }

  pub blocking_kind : Kind v 6 6 0 j at (BlockingRead (num 4 j (at + 1)) (num 2 j (at + 5)))
  unfolding record_of fields_in widths sum carries
  blocking_kind = record { known = refl; size = refl; same = rw (on 1 4 5 refl) refl; bytes = refl }

-- what stands there, by how much of it is there
module _ (v kind s n : ℕ) (j : List ℕ) (at : ℕ) (r : Record) (k : Kind v kind s n j at r) where
  left : length (drop (at + 1) j) ≡ length j - (at + 1)
  left = length-drop (at + 1) j

  pub off : length j < at + 1 + s → at < length j → Stop cut_short ≡ opened v kind (at + 1) (drop (at + 1) j)
  unfolding opened pick
  off h l = let e = left in rw (k.known, k.size, lt-ltb (length (drop (at + 1) j)) s (omega arith)) refl

  pub carried : (f : Found) (q : Record) (start : ℕ) → r ≡ q → at + 1 + s ≤ length j → start ≡ at + 1 + s → f ≡ carrying q start (length j - start)
      → f ≡ opened v kind (at + 1) (drop (at + 1) j)
  unfolding opened pick
  carried f q start i h p g =
      let e = left in
      let d : length (drop (at + 1) j) - s ≡ length j - start = omega arith in
      rw (k.known, k.size, le-ltb (length (drop (at + 1) j)) s (omega arith), k.same, i, d, ← p) g

  pub full : (q : Record) (next : ℕ) → r ≡ q → n ≡ 0 → at + 1 + s ≤ length j → next ≡ at + 1 + s → One q next ≡ opened v kind (at + 1) (drop (at + 1) j)
  unfolding carrying pick
  full q next i z h p =
      carried (One q next) q next i h p
      (let o : next ≡ next + 0 = omega arith in rw (← ap carries i, k.bytes, z, le-ltb (length j - next) 0 (omega arith)) (ap (One q) o))

-- by the kind that stands there
pub of_kind_lem : (v : ℕ) (j : List ℕ) (at k : ℕ) (r : Found) → at < length j → get_or j at 0 ≡ k → r ≡ opened v k (at + 1) (drop (at + 1) j) → r ≡ read_at v j at
of_kind_lem v j at k r h e q =
    let o : at + 1 ≡ suc at = omega arith in
    q ∙ sym (opens v j at h ∙ ap₂ (λ (i n : ℕ). opened v i (at + 1) (drop n j)) e (sym o))

-- a kind that is none of the six
pub other : (v : ℕ) (j : List ℕ) (at k : ℕ) → (k ≡ 1 → ⊥) → (k ≡ 2 → ⊥) → (k ≡ 3 → ⊥) → (k ≡ 4 → ⊥) → (k ≡ 5 → ⊥) → (k ≡ 6 → ⊥) → Stop unknown_kind ≡ opened v k (at + 1) (drop (at + 1) j)
unfolding opened widths pick
other v j at zero a b c d e f = refl
other v j at (suc zero) a b c d e f = elim (a refl) [ ]
other v j at (suc (suc zero)) a b c d e f = elim (b refl) [ ]
other v j at (suc (suc (suc zero))) a b c d e f = elim (c refl) [ ]
other v j at (suc (suc (suc (suc zero)))) a b c d e f = elim (d refl) [ ]
other v j at (suc (suc (suc (suc (suc zero))))) a b c d e f = elim (e refl) [ ]
other v j at (suc (suc (suc (suc (suc (suc zero)))))) a b c d e f = elim (f refl) [ ]
other v j at (suc (suc (suc (suc (suc (suc (suc k))))))) a b c d e f = refl
