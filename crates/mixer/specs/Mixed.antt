-- A pool while bytes go into it: what the small functions of mixing promise one another.
use Rattle.std.specs.Prelude.{ℕ, ◌≡◌, List, length, get_or}
use Rattle.ledger.specs.declared.Spot.{Spot}
use Rattle.pool.specs.Mixing.{Pool, mix}
use Rattle.mixer.specs.Sizes.{shape_of, InPool}
use Rattle.mixer.specs.declared.mixing.Place.{Place}

-- the spot of a place
abbrev pub spot_of : Place → Spot
spot_of p = record { at = p.at; turn = p.turn }

-- a place in a pool of these words, with the word that stands there
pub record Stands (ws : List ℕ) (p : Place) : Type 0 where
  pub inside : InPool (length ws) (spot_of p)
  pub last_is : p.last ≡ get_or ws p.at 0

-- these words with this place are what the words `start`, from the spot s on, become by some bytes
pub record Mixed (start : List ℕ) (s : Spot) (bytes ws : List ℕ) (p : Place) : Type 0 where
  pub stands : Stands ws p
  pub as_many : length ws ≡ length start
  pub pool : ◌≡◌ {A = Pool} (record { words = ws; spot = spot_of p }) (mix (shape_of (length start)) (record { words = start; spot = s }) bytes)
