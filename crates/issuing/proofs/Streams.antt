-- The loop of draws: what comes of one, where z is what all of them give.
use mathlib.Core.Path.{◌≡◌, refl, sym, ap, ◌∙◌}
use mathlib.Core.Bool.{Bool, true, false, not}
use mathlib.Core.List.{List, ◌∷◌}
use Prim.Native.Nat.{ℕ, suc, ◌+◌, ◌-◌, ◌<◌}
use native.Mathlib.Omega.{arith}
use Rattle.ledger.specs.Choice.{pick}
use Rattle.keeper.specs.Generator.{generated}
use Rattle.keeper.proofs.Counter.{generated-blocks}
use Rattle.desk.specs.Desks.{remembered, among, appended}
use Rattle.desk.specs.Issuing.{Spent, none, handed}
use Rattle.desk.specs.declared.Desk.{Desk}
use Rattle.issuing.specs.Promise.{Streamed, streamed, streaming}

-- the work of b draws
abbrev pub spent_by : ℕ → ℕ → Spent
spent_by b c = record { blocks = b; compressions = c }

-- a draw runs one block
one_block : (g : List ℕ) → (generated 15 g).blocks ≡ 1
unfolding pick
one_block g = generated-blocks 15 g

module _ (class : ℕ) (d : Desk) (b c : ℕ) (g h n : List ℕ) (en : n ≡ class ∷ (generated 15 g).bytes) (eh : h ≡ (generated 15 g).generator) where
  met_there : (t : Bool) → among n (remembered d) ≡ t → among (class ∷ (generated 15 g).bytes) (remembered d) ≡ t
  met_there t e = ap (λ (x : List ℕ). among x (remembered d)) (sym en) ∙ e

  again_at : (r : ℕ) → among n (remembered d) ≡ true → streaming r class d (spent_by (b + 1) c) h ≡ streaming (suc r) class d (spent_by b c) g
  unfolding streaming pick
  again_at r e = rw (eh, met_there true e, one_block g) refl

  issues_at : (r : ℕ) → among n (remembered d) ≡ false → streamed h (appended n d) (handed (spent_by (b + 1) c) n) ≡ streaming (suc r) class d (spent_by b c) g
  unfolding streaming pick
  issues_at r e = rw (eh, en, met_there false e, one_block g) refl

  one_of : (z : Streamed) → b < 4 → streaming (4 - b) class d (spent_by b c) g ≡ z → streaming (suc (3 - b)) class d (spent_by b c) g ≡ z
  one_of z l i = let e : suc (3 - b) ≡ 4 - b = omega arith in ap (λ (x : ℕ). streaming x class d (spent_by b c) g) e ∙ i

  -- a number that is remembered
  pub again : (z : Streamed) → b < 4 → streaming (4 - b) class d (spent_by b c) g ≡ z → among n (remembered d) ≡ true → streaming (4 - (b + 1)) class d (spent_by (b + 1) c) h ≡ z
  again z l i e =
      let f : 4 - (b + 1) ≡ 3 - b = omega arith in
      ap (λ (x : ℕ). streaming x class d (spent_by (b + 1) c) h) f ∙ again_at (3 - b) e ∙ one_of z l i

  -- a new one
  pub issues : (z : Streamed) → b < 4 → streaming (4 - b) class d (spent_by b c) g ≡ z → among n (remembered d) ≡ false
      → (kept : Desk) → kept ≡ appended n d → streamed h kept (handed (spent_by (b + 1) c) n) ≡ z
  issues z l i e kept ek = ap (λ (x : Desk). streamed h x (handed (spent_by (b + 1) c) n)) ek ∙ issues_at (3 - b) e ∙ one_of z l i

-- no draw is left
pub no_more : (class : ℕ) (d : Desk) (b c : ℕ) (g : List ℕ) (z : Streamed) → b ≡ 4 → streaming (4 - b) class d (spent_by b c) g ≡ z → streamed g d (none 14 (spent_by 4 c)) ≡ z
unfolding streaming
no_more class d b c g z e i = ap (λ (n : ℕ). streaming (4 - n) class d (spent_by n c) g) (sym e) ∙ i

-- ---- a number is compared with those of the desk as it was at the start
pub at_start : (n : List ℕ) (d e : Desk) (t v : Bool) → e ≡ d → t ≡ among n (remembered e) → t ≡ v → among n (remembered d) ≡ v
at_start n d e t v h f g = ap (λ (x : Desk). among n (remembered x)) (sym h) ∙ sym f ∙ g

pub flip : (t v : Bool) → not t ≡ v → t ≡ not v
flip true v h = ap not h
flip false v h = ap not h
