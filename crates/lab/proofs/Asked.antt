-- Words that a person may write, and what they say: computed from the definitions.
use mathlib.Core.Path.{◌≡◌, refl}
use mathlib.Core.Bool.{true, false}
use mathlib.Core.List.{List, [], ◌∷◌}
use Prim.Native.Nat.{ℕ}
use Rattle.ledger.specs.Choice.{pick}
use Rattle.desk.specs.Desks.{same}
use Rattle.lab.specs.Numbers.{digit, all_digits, is_number, decimal}
use Rattle.lab.specs.Clocks.{Clock, is_clock, clock_of}
use Rattle.lab.specs.Classes.{hex_value, is_hex, bytes_of, Said, no_class, class_field, drill_word, live_word, field_of}

-- ---- classes: `drill` and `44`, `live`, `4c` and `4C`; `4444` is a field of two bytes, and no word at all is a field of none
pub drill_word_lem : field_of drill_word ≡ class_field (0x44 ∷ [])
unfolding field_of same pick
drill_word_lem = refl

pub live_word_lem : field_of live_word ≡ class_field (0x4C ∷ [])
unfolding field_of same pick
live_word_lem = refl

abbrev fields : List Said
fields = field_of (52 ∷ 52 ∷ []) ∷ field_of (52 ∷ 99 ∷ []) ∷ field_of (52 ∷ 67 ∷ []) ∷ field_of (52 ∷ 52 ∷ 52 ∷ 52 ∷ []) ∷ field_of [] ∷ []

pub in_hex : fields ≡ class_field (0x44 ∷ []) ∷ class_field (0x4C ∷ []) ∷ class_field (0x4C ∷ []) ∷ class_field (0x44 ∷ 0x44 ∷ []) ∷ class_field [] ∷ []
unfolding field_of same pick is_hex bytes_of hex_value
in_hex = refl

-- `4`, `444`, `0x44` and `Drill` are none
abbrev others : List Said
others = field_of (52 ∷ []) ∷ field_of (52 ∷ 52 ∷ 52 ∷ []) ∷ field_of (48 ∷ 120 ∷ 52 ∷ 52 ∷ []) ∷ field_of (68 ∷ 114 ∷ 105 ∷ 108 ∷ 108 ∷ []) ∷ []

pub no_classes : others ≡ no_class ∷ no_class ∷ no_class ∷ no_class ∷ []
unfolding field_of same pick is_hex bytes_of hex_value
no_classes = refl

-- ---- clocks: `007` and `4294967295`
abbrev at : ℕ → Clock
at n = record { good = true; value = n }

abbrev none : Clock
none = record { good = false; value = 0 }

abbrev said : List Clock
said = clock_of (48 ∷ 48 ∷ 55 ∷ []) ∷ clock_of (52 ∷ 50 ∷ 57 ∷ 52 ∷ 57 ∷ 54 ∷ 55 ∷ 50 ∷ 57 ∷ 53 ∷ []) ∷ []

pub clocks_said : said ≡ at 7 ∷ at 4294967295 ∷ []
unfolding clock_of is_clock is_number all_digits digit decimal pick
clocks_said = refl

-- no word at all, `4294967296`, `-1` and `1x` are none
abbrev unsaid : List Clock
unsaid = clock_of [] ∷ clock_of (52 ∷ 50 ∷ 57 ∷ 52 ∷ 57 ∷ 54 ∷ 55 ∷ 50 ∷ 57 ∷ 54 ∷ []) ∷ clock_of (45 ∷ 49 ∷ []) ∷ clock_of (49 ∷ 120 ∷ []) ∷ []

pub no_clocks : unsaid ≡ none ∷ none ∷ none ∷ none ∷ []
unfolding clock_of is_clock is_number all_digits digit decimal pick
no_clocks = refl
