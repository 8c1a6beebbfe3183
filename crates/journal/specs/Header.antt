-- The header of a journal: the letters N, K, J, the version in two bytes, and the start bytes. The first test that fails gives the number:
-- too many bytes; a mark that is not ours, or not all there; no whole version; a version that is neither 1 nor 2; no whole start.
use Rattle.std.specs.Prelude.{ℕ, ◌+◌, List, Bool, not, ◌||◌, length, get_or, take, drop, ltb, eqb}
use Rattle.ledger.specs.Choice.{pick}
use Rattle.ledger.specs.Sizes.{start_bytes}
use Rattle.ledger.specs.Numbers.{mark_wrong, version_wrong, cut_short, journal_too_large}
use Rattle.journal.specs.Reading.{num}
use Rattle.journal.specs.Found.{Heading}

-- the most bytes of a journal; and where its records begin, behind the mark, the version and the start bytes
abbrev pub largest : ℕ
largest = 61440

abbrev pub records_begin : ℕ
records_begin = 5 + start_bytes

abbrev pub heading : ℕ → ℕ → ℕ → Heading
heading n v at = record { number = n; version = v; place = at }

-- the versions that there are
unfoldable pub known : ℕ → Bool
known v = eqb v 1 || eqb v 2

-- 0, or the number that ends a journal before its first record, where its first n bytes are there; 78, 75, 74 are the letters
unfoldable pub refusal_within : ℕ → List ℕ → ℕ
refusal_within n j =
    pick (ltb largest n) journal_too_large
    (pick (ltb n 3) mark_wrong
    (pick (not (eqb (get_or j 0 0) 78)) mark_wrong
    (pick (not (eqb (get_or j 1 0) 75)) mark_wrong
    (pick (not (eqb (get_or j 2 0) 74)) mark_wrong
    (pick (ltb n 5) cut_short
    (pick (not (known (num 2 j 3))) version_wrong
    (pick (ltb n records_begin) cut_short 0)))))))

-- that number, the version, and where the records begin: where it is not 0, no version and no place
unfoldable pub header_within : ℕ → List ℕ → Heading
header_within n j = let m = refusal_within n j in pick (eqb m 0) (heading 0 (num 2 j 3) records_begin) (heading m 0 0)

-- of a whole journal all its bytes are there
unfoldable pub header_of : List ℕ → Heading
header_of j = header_within (length j) j

-- the version that a journal's records are read in
abbrev pub version_of : List ℕ → ℕ
version_of j = (header_of j).version

-- the start bytes
unfoldable pub start_of : List ℕ → List ℕ
start_of j = take start_bytes (drop 5 j)
