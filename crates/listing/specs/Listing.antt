-- What is printed of a record that was looked up, and of an index, letter by letter.
use Rattle.std.specs.Prelude.{ℕ, ◌+◌, ◌*◌, List, [], ◌∷◌, ◌++◌}
use Rattle.ledger.specs.Numbers.{done, no_such_record}
use Rattle.journal.specs.Layout.{sum, kind_of, fields_of}
use Rattle.journal.specs.declared.records.Record.{Record}
use Rattle.transcript.specs.Text.{digits, tail_of}

-- numbers in decimal, a space before each; one below 2^64 has twenty digits at most
unfoldable pub spaced : List ℕ → List ℕ
spaced [] = []
spaced (n ∷ ns) = (32 ∷ digits 20 n) ++ spaced ns

-- behind the number of a record that was found: its place, its kind and its fields in the journal's order, and the bytes that it carries
unfoldable pub found_text : ℕ → Record → List ℕ → List ℕ
found_text place r bytes = spaced (done ∷ place ∷ kind_of r ∷ fields_of r) ++ (tail_of bytes ++ (10 ∷ []))

-- behind a number that no record has
unfoldable pub gone_text : List ℕ
gone_text = spaced (no_such_record ∷ []) ++ (10 ∷ [])

-- a line: a name, and its numbers
unfoldable pub named : List ℕ → List ℕ → List ℕ
named name ns = name ++ (spaced ns ++ (10 ∷ []))

-- `records`, `kinds` and `reads`, a line each
unfoldable pub sums_text : List ℕ → ℕ → List ℕ
sums_text kinds reads =
    named (114 ∷ 101 ∷ 99 ∷ 111 ∷ 114 ∷ 100 ∷ 115 ∷ []) (sum kinds ∷ [])
    ++ (named (107 ∷ 105 ∷ 110 ∷ 100 ∷ 115 ∷ []) kinds ++ named (114 ∷ 101 ∷ 97 ∷ 100 ∷ 115 ∷ []) (reads ∷ []))

-- what each asks of a room, twenty digits for every number: of a record with n bytes seven numbers with a space before each, a space before the
-- bytes, two digits for each byte and the newline; src/ has them by name too
abbrev pub longest_found : ℕ → ℕ
longest_found n = 149 + 2 * n

abbrev pub longest_gone : ℕ
longest_gone = 22

abbrev pub longest_sums : ℕ
longest_sums = 188
