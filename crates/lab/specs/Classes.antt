-- A class as a person writes it: `drill`, `live`, or a class field in hexadecimal. Any other word is none: it is not read as an empty field, or as the
-- part of it that could be one.
use Rattle.std.specs.Prelude.{ℕ, ◌+◌, ◌-◌, ◌*◌, ◌≡◌, Bool, true, false, ◌&&◌, List, [], ◌∷◌, leb, ltb}
use Rattle.ledger.specs.Choice.{pick}
use Rattle.transcript.specs.Text.{Put}
use Rattle.desk.specs.Sizes.{drill, live}
use Rattle.desk.specs.Desks.{same}

-- ---- hexadecimal
-- what a digit counts: `0` to `9`, `A` to `F`, `a` to `f`; any other byte is none, and counts 16
abbrev pub in_run : ℕ → ℕ → ℕ → Bool
in_run low high b = leb low b && leb b high

unfoldable pub hex_value : ℕ → ℕ
hex_value b =
    pick (in_run 48 57 b) (b - 48) (pick (in_run 65 70 b) (b - 65 + 10) (pick (in_run 97 102 b) (b - 97 + 10) 16))

abbrev pub is_digit : ℕ → Bool
is_digit b = ltb (hex_value b) 16

-- digits, two for each byte; no word at all is no byte
unfoldable pub is_hex : List ℕ → Bool
is_hex [] = true
is_hex (h ∷ []) = false
is_hex (h ∷ l ∷ word) = (is_digit h && is_digit l) && is_hex word

unfoldable pub bytes_of : List ℕ → List ℕ
bytes_of [] = []
bytes_of (h ∷ []) = []
bytes_of (h ∷ l ∷ word) = (hex_value h * 16 + hex_value l) ∷ bytes_of word

-- ---- what a word says
pub data Said : Type 0 where
  no_class : Said
  class_field : List ℕ → Said

-- the letters of `drill` and of `live`
abbrev pub drill_word : List ℕ
drill_word = 100 ∷ 114 ∷ 105 ∷ 108 ∷ 108 ∷ []

abbrev pub live_word : List ℕ
live_word = 108 ∷ 105 ∷ 118 ∷ 101 ∷ []

unfoldable pub field_of : List ℕ → Said
field_of word =
    pick (same word drill_word) (class_field (drill ∷ []))
    (pick (same word live_word) (class_field (live ∷ [])) (pick (is_hex word) (class_field (bytes_of word)) no_class))

-- whether a word is a class, and how many bytes its field has
pub record Class : Type 0 where
  pub good : Bool
  pub len : ℕ

-- what the code gives of it: the field's bytes at the start of a room; of a word that is none no byte, and the room as it was
abbrev pub Gives : Said → Class → List ℕ → List ℕ → Type 0
Gives no_class r room room' = (r ≡ record { good = false; len = 0 }) × (room' ≡ room)
Gives (class_field bytes) r room room' = (r.good ≡ true) × Put room room' 0 bytes r.len
