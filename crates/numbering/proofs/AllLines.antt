-- What the code leaves and lays into rooms, one behind another, is the whole text; and of the numbers that are issued for it any two of 65 differ.
use mathlib.Core.Path.{◌≡◌, refl, sym, ap, ap₂, ◌∙◌}
use mathlib.Core.List.{List, [], ◌∷◌, ◌++◌, flatten}
use Prim.Native.Nat.{ℕ, ◌+◌, ◌≤◌, ◌<◌}
use native.Mathlib.Omega.{arith}
use borrow.Author.Tests.{eq-eqb, ne_eqb}
use lib.ListN.{length, take, get_or}
use lib.Seq.{take-append_seam}
use Rattle.ledger.specs.Choice.{pick}
use Rattle.ledger.proofs.InRange.{fresh-fine}
use Rattle.journal.specs.Header.{header_of, start_of}
use Rattle.journal.specs.Walking.{Walk, ending_of}
use Rattle.journal.proofs.Laws.{start_48}
use Rattle.journal.proofs.Sides.{by_same}
use Rattle.journal.proofs.Walks.{bad_walk}
use Rattle.transcript.specs.Text.{Put}
use Rattle.transcript.specs.Lines.{end_of}
use Rattle.transcript.proofs.Laws.{start}
use Rattle.keeper.specs.Record.{fresh}
use Rattle.keeper.specs.declared.Keeper.{Keeper}
use Rattle.keeper.proofs.Blind.{fresh_whole}
use Rattle.keeper.proofs.StaysInRange.{after_fine}
use Rattle.replay.specs.Whole.{replayed, calls_of}
use Rattle.desk.specs.Runs.{acted, acts_leave, issued_in}
use Rattle.desk.specs.declared.Desk.{Desk}
use Rattle.desk.proofs.StaysInRange.{Stand}
use Rattle.desk.proofs.LastIssued as Issued
use Rattle.numbering.specs.Whole.{keeper_of_journal, empty_desk, asking, lines_for, issue_text, Handed, nothing, and_then}

-- the front of a room that a text was put into
front : (room room' text : List ℕ) (len : ℕ) → len ≤ length room → Put room room' 0 text len → take len room' ≡ text
front room room' text len h p =
    let e : len ≡ length text = let q = p.place in omega arith in
    let s = start room room' text len (omega (arith, h, e)) p in
    ap₂ take e s ∙ take-append_seam text _

-- all fields
pub all_lines : (k : Keeper) (d : Desk) (now : ℕ) (fields : List (List ℕ)) (text : List ℕ) → Handed k d now fields text → text ≡ lines_for k d now fields
unfolding lines_for acts_leave acted flatten
all_lines k d now [] [] nothing = refl
all_lines k d now (field ∷ fields) text (and_then {k' = k'} {d' = d'} {room = room} {room' = room'} {len = len} {text = more} h w on) =
    ap₂ ◌++◌ (front room room' _ len (omega (arith, h, w.fits)) w.line)
    (all_lines k' d' now fields more on ∙ (λ i. lines_for (w.keeper i) (w.desk i) now fields))
all_lines k d now [] (x ∷ text) h = elim h [ ]

-- a journal that ends with 0 has a good header
abbrev ending : Walk → ℕ
ending w = w.number

good_header : (j : List ℕ) → ending_of j ≡ 0 → (header_of j).number ≡ 0
good_header j h = by_same (header_of j).number 0 (λ e. e) (λ n. absurd (n (sym (ap ending (bad_walk j n)) ∙ h)))

replayed_good : (j : List ℕ) (k : Keeper) → ending_of j ≡ 0 → replayed j k ≡ keeper_of_journal j
unfolding replayed pick
replayed_good j k h = rw (eq-eqb (header_of j).number 0 (good_header j h)) refl

-- THE WHOLE TEXT: the lines on the keeper that the replay left in a record that held anything, and the end
pub whole_text : (j : List ℕ) (k k' : Keeper) (now : ℕ) (fields : List (List ℕ)) (text : List ℕ) → ending_of j ≡ 0 → k' ≡ replayed j k → Handed k' empty_desk now fields text
    → text ++ end_of 0 ≡ issue_text j now fields
unfolding issue_text pick
whole_text j k k' now fields text h e w =
    rw (eq-eqb (ending_of j) 0 h)
    (ap (λ (t : List ℕ). t ++ end_of 0) (all_lines k' empty_desk now fields text w ∙ ap (λ (x : Keeper). lines_for x empty_desk now fields) (e ∙ replayed_good j k h)))

-- of any other journal it is the end alone
pub no_text : (j : List ℕ) (now : ℕ) (fields : List (List ℕ)) → (ending_of j ≡ 0 → ⊥) → end_of (ending_of j) ≡ issue_text j now fields
unfolding issue_text pick
no_text j now fields h = rw (ne_eqb (ending_of j) 0 h) refl

-- ANY TWO OF 65 NUMBERS that are issued for it one after another differ
pub last_65 : (j : List ℕ) (now : ℕ) (fields : List (List ℕ)) → ending_of j ≡ 0 → let ns = issued_in (keeper_of_journal j) empty_desk (asking now fields) in
    (a b : ℕ) → a < b → b ≤ a + 64 → b < length ns → get_or ns a [] ≡ get_or ns b [] → ⊥
last_65 j now fields h =
    let s = start_48 j (good_header j h) in
    let w = after_fine (fresh (start_of j)) (calls_of j) (fresh_whole (start_of j) s) fresh-fine in
    let stand : Stand (keeper_of_journal j) empty_desk = record { whole = w.0; desk = record { places = refl; counted = omega arith } } in
    Issued.last_65 (keeper_of_journal j) empty_desk (asking now fields) stand
