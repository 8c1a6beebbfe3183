-- Demand 3: two fresh keepers that are given the same kinds of call with the same public fields show the same after each call, whatever
-- their start bytes, and whatever the stamps, addresses and fed bytes of the calls.
use mathlib.Core.Path.{◌≡◌, refl, sym, ap₂, ◌∙◌}
use mathlib.Core.List.{List, [], ◌∷◌, map, head-eq_of_cons-eq, tail-eq_of_cons-eq}
use Prim.Native.Nat.{ℕ}
use native.Mathlib.Omega.{arith}
use lib.ListN.{length}
use Rattle.words.proofs.Numbers.{length-bytes_words_whole}
use Rattle.ledger.specs.Machine.{step_view}
use Rattle.keeper.specs.Record.{fresh, view}
use Rattle.keeper.specs.Calls.{Call, public}
use Rattle.keeper.specs.Narrative.{told}
use Rattle.keeper.specs.Demands.{outcomes, Alike, shown}
use Rattle.keeper.specs.declared.Keeper.{Keeper}
use Rattle.keeper.proofs.Shadow.{Whole, shadow, stays_whole}

-- two keepers of which the same can be seen, given calls of which the same can be seen, show the same
same_shown : (k k' : Keeper) (c c' : Call) → Whole k → Whole k' → view k ≡ view k' → public c ≡ public c' → shown (told k c) ≡ shown (told k' c')
same_shown k k' c c' w w' v e = shadow k c w ∙ ap₂ step_view v e ∙ sym (shadow k' c' w')

-- and go on doing so
pub blind : (k k' : Keeper) (cs cs' : List Call) → Whole k → Whole k' → view k ≡ view k' → map public cs ≡ map public cs' → Alike (outcomes k cs) (outcomes k' cs')
unfolding outcomes
blind k k' [] [] w w' v e = refl
blind k k' [] (c' ∷ cs') w w' v e = absurd (let z : ◌≡◌ {A = ℕ} 0 1 = cc in omega arith)
blind k k' (c ∷ cs) [] w w' v e = absurd (let z : ◌≡◌ {A = ℕ} 0 1 = cc in omega arith)
blind k k' (c ∷ cs) (c' ∷ cs') w w' v e =
    let h = same_shown k k' c c' w w' v (head-eq_of_cons-eq e) in
    ap₂ ◌∷◌ h (blind (told k c).keeper (told k' c').keeper cs cs' (stays_whole k c w) (stays_whole k' c' w') (λ i. (h i).view) (tail-eq_of_cons-eq e))

-- a fresh keeper is whole
pub fresh_whole : (start : List ℕ) → length start ≡ 48 → Whole (fresh start)
fresh_whole start h = record { fast = refl; generator = omega (arith, length-bytes_words_whole start 12 (omega arith)) }

-- DEMAND 3
pub demand_3 : (start start' : List ℕ) → length start ≡ 48 → length start' ≡ 48 → (cs cs' : List Call) → map public cs ≡ map public cs'
    → Alike (outcomes (fresh start) cs) (outcomes (fresh start') cs')
demand_3 start start' h h' cs cs' e = blind (fresh start) (fresh start') cs cs' (fresh_whole start h) (fresh_whole start' h') refl e
