-- A record that is read is whole and lies ahead; a number that is found is not 0.
use mathlib.Core.Path.{◌≡◌, refl, sym, ◌∙◌}
use mathlib.Core.Bool.{false}
use mathlib.Core.List.{List}
use Prim.Native.Nat.{ℕ, suc, ◌+◌, ◌-◌, ◌≤◌, ◌<◌}
use native.Mathlib.Omega.{arith}
use borrow.Author.Tests.{ltb-false, le-ltb}
use lib.Dec.{ltb, eqb}
use lib.ListN.{length, get_or, drop, length-drop}
use lib.Seq.{drop-cons}
use Rattle.ledger.specs.Choice.{pick}
use Rattle.ledger.specs.Sizes.{longest}
use Rattle.ledger.proofs.Picks.{pick_by}
use Rattle.journal.specs.Layout.{widths, sum, record_of, carries}
use Rattle.journal.specs.Reading.{fields_in, carrying, opened, front, read_at}
use Rattle.journal.specs.Cutting.{telling, enough}
use Rattle.journal.specs.declared.records.Record.{Record}
use Rattle.journal.specs.Found.{Found, One, Stop, End}
use Rattle.journal.proofs.Sides.{by_less}
use Rattle.journal.proofs.Cut.{past}

-- all that is known of a record that was read: its bytes are these, and they begin behind its kind
pub record Whole (v kind start : ℕ) (bs : List ℕ) (r : Record) (next : ℕ) : Type 0 where
  pub same : r ≡ record_of kind (fields_in (widths v kind) bs)
  pub known : eqb (length (widths v kind)) 0 ≡ false
  pub few : carries r ≤ longest
  pub there : sum (widths v kind) + carries r ≤ length bs
  pub after : next ≡ start + sum (widths v kind) + carries r

abbrev Tells : ℕ → ℕ → ℕ → List ℕ → Found → Type 0
Tells v kind start bs (One r next) = Whole v kind start bs r next
Tells v kind start bs (Stop n) = n ≡ 0 → ⊥
Tells v kind start bs End = ⊥

opened_tells : (v kind start : ℕ) (bs : List ℕ) → Tells v kind start bs (opened v kind start bs)
unfolding opened carrying
opened_tells v kind start bs =
    let ws = widths v kind in
    let r = record_of kind (fields_in ws bs) in
    pick_by (Tells v kind start bs) (eqb (length ws) 0) (λ e z. omega (arith, z))
    (λ a. pick_by (Tells v kind start bs) (ltb (length bs) (sum ws)) (λ e z. omega (arith, z))
    (λ b. pick_by (Tells v kind start bs) (ltb longest (carries r)) (λ e z. omega (arith, z))
    (λ c. pick_by (Tells v kind start bs) (ltb (length bs - sum ws) (carries r)) (λ e z. omega (arith, z))
    (λ d. let m = ltb-false (length bs) (sum ws) b in
    let n = ltb-false (length bs - sum ws) (carries r) d in
    record { same = refl; known = a; few = ltb-false longest (carries r) c; there = omega (arith, m, n); after = refl }))))

-- the same at a position of a journal
pub record Stands (v : ℕ) (j : List ℕ) (at : ℕ) (r : Record) (next : ℕ) : Type 0 where
  pub within : at < length j
  pub whole : Whole v (get_or j at 0) (at + 1) (drop (suc at) j) r next

-- behind the first byte
pub opens : (v : ℕ) (j : List ℕ) (at : ℕ) → at < length j → read_at v j at ≡ opened v (get_or j at 0) (at + 1) (drop (suc at) j)
unfolding read_at front
opens v j at h = rw (drop-cons j at 0 h) refl

-- so whatever is found there tells
tells : (v : ℕ) (j : List ℕ) (at : ℕ) (x : Found) → at < length j → read_at v j at ≡ x → Tells v (get_or j at 0) (at + 1) (drop (suc at) j) x
tells v j at x h e = rw (sym (opens v j at h) ∙ e) at (opened_tells v (get_or j at 0) (at + 1) (drop (suc at) j))

pub inside : (v : ℕ) (j : List ℕ) (at : ℕ) (x : Found) → (x ≡ End → ⊥) → read_at v j at ≡ x → at < length j
inside v j at x n e = by_less at (length j) (λ h. h) (λ h. absurd (n (sym e ∙ past v j at h)))

pub one_is_not_end : (r : Record) (next : ℕ) → One r next ≡ End → ⊥
one_is_not_end r next e = let z : ◌≡◌ {A = ℕ} 0 1 = cc in omega arith

pub stop_is_not_end : (n : ℕ) → Stop n ≡ End → ⊥
stop_is_not_end n e = let z : ◌≡◌ {A = ℕ} 0 1 = cc in omega arith

pub stop_is_not_one : (n : ℕ) (r : Record) (next : ℕ) → Stop n ≡ One r next → ⊥
stop_is_not_one n r next e = let z : ◌≡◌ {A = ℕ} 0 1 = cc in omega arith

pub stands : (v : ℕ) (j : List ℕ) (at : ℕ) (r : Record) (next : ℕ) → read_at v j at ≡ One r next → Stands v j at r next
stands v j at r next e =
    let h = inside v j at (One r next) (one_is_not_end r next) e in
    record { within = h; whole = tells v j at (One r next) h e }

pub stop_not_0 : (v : ℕ) (j : List ℕ) (at n : ℕ) → read_at v j at ≡ Stop n → n ≡ 0 → ⊥
stop_not_0 v j at n e = tells v j at (Stop n) (inside v j at (Stop n) (stop_is_not_end n) e) e

-- at the end there are no more bytes
pub end_past : (v : ℕ) (j : List ℕ) (at : ℕ) → read_at v j at ≡ End → length j ≤ at
end_past v j at e = by_less at (length j) (λ h. absurd (tells v j at End h e)) (λ h. h)

pub read_ahead : (v : ℕ) (j : List ℕ) (at : ℕ) (r : Record) (next : ℕ) → read_at v j at ≡ One r next → (at < next) × (next ≤ length j)
read_ahead v j at r next e =
    let s = stands v j at r next e in
    let d : length (drop (suc at) j) ≡ length j - suc at = length-drop (suc at) j in
    (omega (arith, s.whole.after), omega (arith, s.within, s.whole.after, s.whole.there, d))

-- a record is as long as what tells it
pub told_by : (v : ℕ) (j : List ℕ) (at : ℕ) (r : Record) (next : ℕ) → read_at v j at ≡ One r next → at + enough v (drop at j) ≡ next
unfolding enough telling pick
told_by v j at r next e =
    let s = stands v j at r next e in
    let w = s.whole in
    let c : ltb longest (carries (record_of (get_or j at 0) (fields_in (widths v (get_or j at 0)) (drop (suc at) j)))) ≡ false = rw w.same at (le-ltb longest (carries r) w.few) in
    rw (drop-cons j at 0 s.within, w.known, c, ← w.same) (omega (arith, w.after))
