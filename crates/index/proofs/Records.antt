-- What is known of a record that was read: it has at least seven bytes, asks for at most 65,535, and is of one of six kinds.
use mathlib.Core.Path.{◌≡◌}
use mathlib.Core.Bool.{false}
use mathlib.Core.List.{List, [], ◌∷◌}
use Prim.Native.Nat.{ℕ, zero, suc, ◌+◌, ◌^◌, ◌≤◌, ◌<◌}
use native.Mathlib.Omega.{arith}
use lib.Dec.{eqb}
use lib.ListN.{length, get_or, take, drop}
use lib.Seq.{get_or-drop}
use Rattle.words.specs.Bytes.{le_number}
use Rattle.journal.specs.Layout.{widths, sum, kind_of, record_of}
use Rattle.journal.specs.Reading.{fields_in, read_at}
use Rattle.journal.specs.declared.records.Record.{Record}
use Rattle.journal.specs.declared.records.Record.TheVariants.{Event, Interrupt, Write, Seed, Read, BlockingRead}
use Rattle.journal.specs.Found.{One}
use Rattle.journal.proofs.Onward.{stands}
use Rattle.index.specs.Summary.{asks}

-- a kind that is known has fields of six bytes or more
six : (v kind : ℕ) → eqb (length (widths v kind)) 0 ≡ false → 6 ≤ sum (widths v kind)
unfolding widths sum
six v zero h = let z : ◌≡◌ {A = ℕ} 0 1 = cc in omega arith
six v (suc zero) h = omega arith
six v (suc (suc zero)) h = omega arith
six v (suc (suc (suc zero))) h = omega arith
six v (suc (suc (suc (suc zero)))) h = omega arith
six v (suc (suc (suc (suc (suc zero))))) h = omega arith
six v (suc (suc (suc (suc (suc (suc zero)))))) h = omega arith
six v (suc (suc (suc (suc (suc (suc (suc k))))))) h = let z : ◌≡◌ {A = ℕ} 0 1 = cc in omega arith

pub seven : (v : ℕ) (j : List ℕ) (at : ℕ) (r : Record) (next : ℕ) → read_at v j at ≡ One r next → at + 7 ≤ next
seven v j at r next e =
    let w = (stands v j at r next e).whole in
    omega (arith, w.after, six v _ w.known)

-- two bytes make less than 65,536
two : (bs : List ℕ) → ((i : ℕ) → get_or bs i 0 < 2 ^ 8) → le_number (take 2 bs) ≤ 65535
unfolding le_number
two [] b = omega arith
two (x ∷ []) b = omega (arith, b 0)
two (x ∷ y ∷ bs) b = omega (arith, b 0, b 1)

narrow_kind : (v kind : ℕ) (bs : List ℕ) → ((i : ℕ) → get_or bs i 0 < 2 ^ 8) → asks (record_of kind (fields_in (widths v kind) bs)) ≤ 65535
unfolding asks record_of widths fields_in
narrow_kind v zero bs b = omega arith
narrow_kind v (suc zero) bs b = omega arith
narrow_kind v (suc (suc zero)) bs b = omega arith
narrow_kind v (suc (suc (suc zero))) bs b = omega arith
narrow_kind v (suc (suc (suc (suc zero)))) bs b = omega arith
narrow_kind v (suc (suc (suc (suc (suc zero))))) bs b = two (drop 4 bs) (λ i. rw (get_or-drop 4 bs i 0) (b (4 + i)))
narrow_kind v (suc (suc (suc (suc (suc (suc zero)))))) bs b = two (drop 4 bs) (λ i. rw (get_or-drop 4 bs i 0) (b (4 + i)))
narrow_kind v (suc (suc (suc (suc (suc (suc (suc k))))))) bs b = omega arith

pub narrow : (v : ℕ) (j : List ℕ) (at : ℕ) (r : Record) (next : ℕ) → ((i : ℕ) → get_or j i 0 < 2 ^ 8) → read_at v j at ≡ One r next → asks r ≤ 65535
narrow v j at r next b e =
    let w = (stands v j at r next e).whole in
    rw w.same (narrow_kind v (get_or j at 0) (drop (suc at) j) (λ i. rw (get_or-drop (suc at) j i 0) (b (suc at + i))))

of_six : (r : Record) → (1 ≤ kind_of r) × (kind_of r ≤ 6)
unfolding kind_of
of_six (Event now device stamp value) = (omega arith, omega arith)
of_six (Interrupt now number stamp address) = (omega arith, omega arith)
of_six (Write now len) = (omega arith, omega arith)
of_six (Seed now len credit) = (omega arith, omega arith)
of_six (Read now len) = (omega arith, omega arith)
of_six (BlockingRead now len) = (omega arith, omega arith)

pub one_of_six : (r : Record) (k : ℕ) → k ≡ kind_of r → (1 ≤ k) × (k ≤ 6)
one_of_six r k e = rw e (of_six r)
