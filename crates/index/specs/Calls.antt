-- The two calls on a room of 61,440 bytes, whose first n are a journal, and on its index: what they refuse, in the order of the wish, and what
-- they leave.
use Rattle.std.specs.Prelude.{◌≡◌, ℕ, ◌+◌, Bool, true, false, ◌&&◌, List, [], ◌∷◌, ◌++◌, map, length, take, ltb, eqb, Result, Ok, Err, IfOk}
use Rattle.std.proofs.lemmas.List.Edits.{sets}
use Rattle.ledger.specs.Choice.{pick, first}
use Rattle.ledger.specs.Refusals.{number_of, number_given}
use Rattle.ledger.specs.declared.refusals.Refusal.{Refusal}
use Rattle.ledger.specs.Numbers.{done, too_long, journal_too_large, index_differs}
use Rattle.journal.specs.Header.{largest}
use Rattle.journal.specs.Walking.{ending_of}
use Rattle.index.specs.Summary.{summary_of, index_of}
use Rattle.index.specs.Looking.{look_up}
use Rattle.index.specs.Filing.{file_of}
use Rattle.index.specs.declared.summary.Index.{Index}
use Rattle.index.specs.declared.fresh.Fresh.{Fresh}
use Rattle.index.specs.declared.appending.Appended.{Appended}

-- the most record numbers of one look-up call
abbrev pub most_numbers : ℕ
most_numbers = 64

-- the number that the journal ends with; one longer than its room is too large, whatever the room holds
unfoldable pub ending_in : List ℕ → ℕ → ℕ
ending_in room n = pick (ltb largest n) journal_too_large (ending_of (take n room))

-- that number, and the index worked out afresh; where the number is not 0, an index of nothing
unfoldable pub fresh_of : List ℕ → Fresh
fresh_of j = let e = ending_of j in record { number = e; index = pick (eqb e 0) (index_of j) (summary_of []) }

unfoldable pub fresh_in : List ℕ → ℕ → Fresh
fresh_in room n = pick (ltb largest n) (record { number = journal_too_large; index = summary_of [] }) (fresh_of (take n room))

-- how the code tells it: the index, or why the journal has none
abbrev pub worked_out : Result Index Refusal → Fresh
worked_out (Ok ix) = record { number = done; index = ix }
worked_out (Err why) = record { number = number_of why; index = summary_of [] }

-- whether two lists, two indexes, are the same
unfoldable pub same : List ℕ → List ℕ → Bool
same [] [] = true
same [] (y ∷ ys) = false
same (x ∷ xs) [] = false
same (x ∷ xs) (y ∷ ys) = pick (eqb x y) (same xs ys) false

unfoldable pub same_index : Index → Index → Bool
same_index a b = same a.places b.places && (same a.kinds b.kinds && eqb a.reads b.reads)

-- an index, and the file of one, is the one worked out afresh from the journal
unfoldable pub agrees : Index → List ℕ → ℕ → Bool
agrees ix room n = same_index ix (index_of (take n room))

unfoldable pub file_agrees : List ℕ → List ℕ → ℕ → Bool
file_agrees file room n = same file (file_of (index_of (take n room)))

-- WHAT IS REFUSED, in this order: the journal, with the number that it ends with; an index that is not the journal's; the longer journal, with
-- its number; a 65th record number
unfoldable pub append_refused : Bool → List ℕ → ℕ → List ℕ → ℕ
append_refused good room n more = first (ending_in room n ∷ pick good 0 index_differs ∷ ending_of (take n room ++ more) ∷ [])

unfoldable pub look_refused : Bool → List ℕ → ℕ → List ℕ → ℕ
look_refused good room n numbers = first (ending_in room n ∷ pick good 0 index_differs ∷ pick (ltb most_numbers (length numbers)) too_long 0 ∷ [])

-- APPENDING: the longer journal's length and its index; or the number that refused it, and both as they were
unfoldable pub appended : ℕ → List ℕ → ℕ → Index → List ℕ → Appended
appended refused room n ix more =
    pick (eqb refused 0) (record { number = 0; len = n + length more; index = index_of (take n room ++ more) }) (record { number = refused; len = n; index = ix })

-- the room then: the bytes laid behind the journal, all others as they were
unfoldable pub room_after : ℕ → List ℕ → ℕ → List ℕ → List ℕ
room_after refused room n more = pick (eqb refused 0) (sets room n more) room

-- an append as the code tells it: the number that refuses it and, where none does, the longer journal's index; and the room
pub record Extended (done : Result Index Refusal) (refused : ℕ) (room : List ℕ) (n : ℕ) (more left : List ℕ) : Type 0 where
  pub number : number_given done ≡ refused
  pub index : IfOk done (λ ix. ix ≡ index_of (take n room ++ more))
  pub room_then : left ≡ room_after refused room n more

-- LOOKING UP several: the answers and the places, laid at the start of their rooms; or nothing
unfoldable pub answers_after : ℕ → List ℕ → ℕ → List ℕ → List ℕ → List ℕ
answers_after refused room n numbers out =
    pick (eqb refused 0) (sets out 0 (map (λ m. (look_up (index_of (take n room)) (take n room) m).answer) numbers)) out

unfoldable pub places_after : ℕ → List ℕ → ℕ → List ℕ → List ℕ → List ℕ
places_after refused room n numbers out =
    pick (eqb refused 0) (sets out 0 (map (λ m. (look_up (index_of (take n room)) (take n room) m).place) numbers)) out
