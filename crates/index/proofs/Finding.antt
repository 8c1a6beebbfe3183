-- What a look-up call leaves in its two rooms.
use mathlib.Core.Path.{◌≡◌, refl}
use mathlib.Core.List.{List, map}
use Prim.Native.Nat.{ℕ, ◌*◌, ◌≤◌}
use native.Mathlib.Omega.{arith}
use borrow.Author.Tests.{ne_eqb}
use lib.ListN.{take}
use lib.Seq.{sets}
use Rattle.ledger.specs.Choice.{pick}
use Rattle.journal.specs.Header.{largest, version_of}
use Rattle.journal.specs.Layout.{sum}
use Rattle.index.specs.Summary.{every, most_places, index_of, records_in}
use Rattle.index.specs.Looking.{Sought, sought, look_up}
use Rattle.index.specs.Room.{Roomy}
use Rattle.index.specs.Calls.{answers_after, places_after}
use Rattle.index.specs.declared.summary.Index.{Index}

module _ (room : List ℕ) (n : ℕ) (numbers : List ℕ) where
  -- refused: as they were
  pub kept : (answers places : List ℕ) (r : ℕ) → (r ≡ 0 → ⊥) → (answers ≡ answers_after r room n numbers answers) × (places ≡ places_after r room n numbers places)
  unfolding answers_after places_after pick
  kept answers places r h = rw (ne_eqb r 0 h) (refl, refl)

  -- and not
  module _ (ix : Index) (e : ix ≡ index_of (take n room)) (count : ℕ) (c : count ≡ sum ix.kinds) (v : ℕ) (version : v ≡ version_of (take n room)) where
    abbrev found : ℕ → Sought
    found m = sought count ix.places v (take n room) m

    pub laid : (answers places answered placed : List ℕ)
        → answered ≡ sets answers 0 (map (λ m. (found m).answer) numbers) → placed ≡ sets places 0 (map (λ m. (found m).place) numbers)
        → (answered ≡ answers_after 0 room n numbers answers) × (placed ≡ places_after 0 room n numbers places)
    unfolding answers_after places_after pick look_up records_in
    laid answers places answered placed a p = rw (← e, ← c, ← version) (a, p)

-- the places are enough
pub few_places : (ix : Index) (len count : ℕ) → Roomy (records_in ix) len ix.kinds ix.reads → count ≡ sum ix.kinds → len ≤ largest → count ≤ every * most_places
unfolding records_in
few_places ix len count r c h = omega (arith, r.short, c, h)
