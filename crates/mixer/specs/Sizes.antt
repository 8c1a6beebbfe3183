-- The word counts of the two pools, and what a function of the code asks of a pool that it is lent.
use Rattle.std.specs.Prelude.{ℕ, ◌≤◌, ◌<◌, ◌≡◌, ◌⊎◌, List, [], ◌∷◌, eqb}
use Rattle.ledger.specs.Choice.{pick}
use Rattle.ledger.specs.Sizes.{input_words, blocking_words}
use Rattle.ledger.specs.Shapes.{Shape, input_shape, blocking_shape}
use Rattle.ledger.specs.declared.Spot.{Spot}
use Rattle.mixer.specs.declared.mixing.Taps.{Taps}

-- the shape of a pool of n words: any number but the input pool's is the blocking pool's
unfoldable pub shape_of : ℕ → Shape
shape_of n = pick (eqb n input_words) input_shape blocking_shape

-- n is the word count of a pool
pub record Size (n : ℕ) : Type 0 where
  pub few : n ≤ input_words
  pub some : 0 < n
  pub one_of : (n ≡ input_words) ⊎ (n ≡ blocking_words)

-- a place in a pool of n words: the position is inside it, and the rotation is one of a word
pub record InPool (n : ℕ) (s : Spot) : Type 0 where
  pub place : s.at < n
  pub turning : s.turn ≤ 31
  pub size : Size n

-- the taps, but for the last, as a list
abbrev pub far_taps : Taps → List ℕ
far_taps t = t.a ∷ t.b ∷ t.c ∷ t.d ∷ []

-- the taps of a pool of n words
pub record TapsOf (n : ℕ) (t : Taps) : Type 0 where
  pub these : (t.a ∷ t.b ∷ t.c ∷ t.d ∷ 1 ∷ []) ≡ (shape_of n).taps
  pub a_small : t.a ≤ input_words
  pub b_small : t.b ≤ input_words
  pub c_small : t.c ≤ input_words
  pub d_small : t.d ≤ input_words
