-- A journal of which only the first n bytes are left: its walk, said of the whole journal. The records that end within these bytes are kept, and
-- no other. The number is 0 where the cut is at the end of a record. Elsewhere it is 10, or the whole's own number where what is left of the
-- bytes that end the whole is enough to tell it.
use Rattle.std.specs.Prelude.{ℕ, ◌+◌, Bool, true, List, [], ◌∷◌, length, drop, leb, ltb, eqb}
use Rattle.ledger.specs.Choice.{pick}
use Rattle.ledger.specs.Sizes.{longest}
use Rattle.ledger.specs.Numbers.{cut_short}
use Rattle.journal.specs.Layout.{widths, sum, record_of, carries}
use Rattle.journal.specs.Reading.{fields_in}
use Rattle.journal.specs.Header.{header_within}
use Rattle.journal.specs.Walking.{Entry, Walk, walk, behind}

-- the entries that end at n or before
unfoldable pub up_to : ℕ → List Entry → List Entry
up_to n [] = []
up_to n (e ∷ es) = pick (leb e.next n) (e ∷ up_to n es) (up_to n es)

-- where the last of them ends; where there is none, where the first would begin
unfoldable pub reached : ℕ → List Entry → ℕ
reached at [] = at
reached at (e ∷ es) = reached e.next es

-- n is where the first begins, or where one of them ends
unfoldable pub boundary : ℕ → ℕ → List Entry → Bool
boundary n at [] = eqb n at
boundary n at (e ∷ es) = pick (eqb n at) true (boundary n e.next es)

-- how many bytes behind the kind are enough to tell what stands there: none where the kind is unknown, the fields where the length is too
-- great, else the fields and the bytes
unfoldable pub telling : ℕ → ℕ → List ℕ → ℕ
telling v kind bs =
    let ws = widths v kind in
    let n = carries (record_of kind (fields_in ws bs)) in
    pick (eqb (length ws) 0) 0 (sum ws + pick (ltb longest n) 0 n)

-- the same from the kind on; behind the last byte nothing is left to tell
unfoldable pub enough : ℕ → List ℕ → ℕ
enough v [] = 0
enough v (kind ∷ bs) = 1 + telling v kind bs

-- the number that then ends the journal, by the whole's walk from a position on
unfoldable pub cut_number : ℕ → ℕ → List ℕ → ℕ → Walk → ℕ
cut_number n v j at w = pick (boundary n at w.entries) 0 (pick (leb (w.stop + enough v (drop w.stop j)) n) w.number cut_short)

-- what n bytes leave of a walk from a position on
unfoldable pub cut_walk : ℕ → ℕ → List ℕ → ℕ → Walk → Walk
cut_walk n v j at w = record { entries = up_to n w.entries; stop = reached at (up_to n w.entries); number = cut_number n v j at w }

-- and of a journal: the header is judged by what is left of it, and so is the size
unfoldable pub walk_within : ℕ → List ℕ → Walk
walk_within n j = behind (header_within n j) (λ v at. cut_walk n v j at (walk v j at))
