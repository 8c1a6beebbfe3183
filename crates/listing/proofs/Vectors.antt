-- Texts that the definitions compute to, letter by letter.
use mathlib.Core.Path.{◌≡◌, refl}
use mathlib.Core.List.{[], ◌∷◌, ◌++◌}
use Rattle.ledger.specs.Choice.{pick}
use Rattle.journal.specs.Layout.{sum, kind_of, fields_of}
use Rattle.journal.specs.declared.records.Record.TheVariants.{Event, Interrupt, Write, Seed, Read, BlockingRead}
use Rattle.transcript.specs.Text.{digits, tail_of, hex_of, glyph_of}
use Rattle.listing.specs.Listing.{spaced, named, found_text, gone_text, sums_text}

-- ` 0 20 1 4096 3 17 4294967295`: an event
pub event : found_text 20 (Event 4096 3 17 4294967295) []
    ≡ 32 ∷ 48 ∷ 32 ∷ 50 ∷ 48 ∷ 32 ∷ 49 ∷ 32 ∷ 52 ∷ 48 ∷ 57 ∷ 54 ∷ 32 ∷ 51 ∷ 32 ∷ 49 ∷ 55 ∷ 32 ∷ 52 ∷ 50 ∷ 57 ∷ 52 ∷ 57 ∷ 54 ∷ 55 ∷ 50 ∷ 57 ∷ 53 ∷ 10 ∷ []
unfolding found_text spaced kind_of fields_of digits tail_of pick
event = refl

-- ` 0 8 2 6 5 18446744073709551615 4`: an interrupt, with the largest stamp
pub interrupt : found_text 8 (Interrupt 6 5 18446744073709551615 4) []
    ≡ 32 ∷ 48 ∷ 32 ∷ 56 ∷ 32 ∷ 50 ∷ 32 ∷ 54 ∷ 32 ∷ 53 ∷ 32 ∷ 49 ∷ 56 ∷ 52 ∷ 52 ∷ 54 ∷ 55 ∷ 52 ∷ 52 ∷ 48 ∷ 55 ∷ 51 ∷ 55 ∷ 48 ∷ 57 ∷ 53 ∷ 53 ∷ 49 ∷ 54 ∷ 49 ∷ 53 ∷ 32 ∷ 52 ∷ 10 ∷ []
unfolding found_text spaced kind_of fields_of digits tail_of pick
interrupt = refl

-- ` 0 38 3 1 0`: a write of no bytes
pub write : found_text 38 (Write 1 0) [] ≡ 32 ∷ 48 ∷ 32 ∷ 51 ∷ 56 ∷ 32 ∷ 51 ∷ 32 ∷ 49 ∷ 32 ∷ 48 ∷ 10 ∷ []
unfolding found_text spaced kind_of fields_of digits tail_of pick
write = refl

-- ` 0 70 4 9 3 512 000fa9`: a seed, with its bytes
pub seed : found_text 70 (Seed 9 3 512) (0x00 ∷ 0x0f ∷ 0xa9 ∷ [])
    ≡ 32 ∷ 48 ∷ 32 ∷ 55 ∷ 48 ∷ 32 ∷ 52 ∷ 32 ∷ 57 ∷ 32 ∷ 51 ∷ 32 ∷ 53 ∷ 49 ∷ 50 ∷ 32 ∷ 48 ∷ 48 ∷ 48 ∷ 102 ∷ 97 ∷ 57 ∷ 10 ∷ []
unfolding found_text spaced kind_of fields_of digits tail_of hex_of glyph_of pick
seed = refl

-- ` 0 61439 5 2 33`: a read
pub read : found_text 61439 (Read 2 33) [] ≡ 32 ∷ 48 ∷ 32 ∷ 54 ∷ 49 ∷ 52 ∷ 51 ∷ 57 ∷ 32 ∷ 53 ∷ 32 ∷ 50 ∷ 32 ∷ 51 ∷ 51 ∷ 10 ∷ []
unfolding found_text spaced kind_of fields_of digits tail_of pick
read = refl

-- ` 0 12 6 7 65535`: a blocking read
pub blocking_read_lem : found_text 12 (BlockingRead 7 65535) []
    ≡ 32 ∷ 48 ∷ 32 ∷ 49 ∷ 50 ∷ 32 ∷ 54 ∷ 32 ∷ 55 ∷ 32 ∷ 54 ∷ 53 ∷ 53 ∷ 51 ∷ 53 ∷ 10 ∷ []
unfolding found_text spaced kind_of fields_of digits tail_of pick
blocking_read_lem = refl

-- ` 18`
pub gone : gone_text ≡ 32 ∷ 49 ∷ 56 ∷ 10 ∷ []
unfolding gone_text spaced digits pick
gone = refl

-- `records 21`, `kinds 1 2 3 4 5 6`, `reads 77`
pub sums : sums_text (1 ∷ 2 ∷ 3 ∷ 4 ∷ 5 ∷ 6 ∷ []) 77
    ≡ (114 ∷ 101 ∷ 99 ∷ 111 ∷ 114 ∷ 100 ∷ 115 ∷ 32 ∷ 50 ∷ 49 ∷ 10 ∷ [])
    ++ ((107 ∷ 105 ∷ 110 ∷ 100 ∷ 115 ∷ 32 ∷ 49 ∷ 32 ∷ 50 ∷ 32 ∷ 51 ∷ 32 ∷ 52 ∷ 32 ∷ 53 ∷ 32 ∷ 54 ∷ 10 ∷ [])
    ++ (114 ∷ 101 ∷ 97 ∷ 100 ∷ 115 ∷ 32 ∷ 55 ∷ 55 ∷ 10 ∷ []))
unfolding sums_text named spaced sum digits pick
sums = refl
