-- CONVERTING, of every journal that is not refused: the outcome is a good journal of version 2 with the same start bytes and the same records, and
-- ends with 0. What the room then holds.
use mathlib.Core.Path.{◌≡◌, refl, ap, ◌∙◌}
use mathlib.Core.Bool.{true}
use mathlib.Core.List.{List, ◌++◌}
use Prim.Native.Nat.{ℕ, ◌+◌, ◌≤◌}
use native.Mathlib.Omega.{arith}
use borrow.Author.Tests.{eq-eqb, ne_eqb, eqb-true}
use lib.Dec.{eqb}
use lib.ListN.{length, drop}
use lib.Seq.{sets-eq}
use Rattle.ledger.specs.Choice.{pick}
use Rattle.ledger.specs.Numbers.{version_wrong}
use Rattle.ledger.proofs.Picks.{pick_by}
use Rattle.journal.specs.Header.{records_begin, heading, known, header_of, version_of, start_of}
use Rattle.journal.specs.Walking.{walk, walk_of, ending_of}
use Rattle.journal.specs.Writing.{said_in, AllWritable}
use Rattle.journal.specs.Found.{Heading}
use Rattle.journal.proofs.Runs.{Bytes}
use Rattle.journal.proofs.Laws.{start_48}
use Rattle.journal.proofs.Walks.{good_walk}
use Rattle.journal.proofs.Appended.{ends_well}
use Rattle.journal.proofs.Again.{walk_wider}
use Rattle.journal.proofs.WholeJournals.{Holds, journal_read}
use Rattle.convert.specs.Converting.{outcome_of, refusal_of, converted_of, room_after}
use Rattle.convert.specs.Passes.{events_in}
use Rattle.convert.proofs.Longer.{one_byte_longer}
use Rattle.convert.proofs.Refusing.{taken, not_version_1}

known_2 : known 2 ≡ true
unfolding known
known_2 = refl

module _ (j : List ℕ) (n : ℕ) (z : refusal_of j n ≡ 0) where
  -- ONE BYTE LONGER for each event
  pub longer : length (outcome_of j) ≡ length j + events_in (walk_of j).entries
  longer = let t = taken j n z in one_byte_longer j t.ends t.version

  module _ (b : Bytes j) where
    -- all its records can be written in version 2
    all_writable : AllWritable 2 (said_in j (walk_of j).entries)
    all_writable =
        let t = taken j n z in
        let g : walk_of j ≡ walk 1 j records_begin = good_walk j (ends_well j t.ends) ∙ ap (λ (u : ℕ). walk u j records_begin) t.version in
        rw g (walk_wider j b records_begin)

    -- so the outcome is read back
    pub holds : Holds 2 (start_of j) (said_in j (walk_of j).entries) (outcome_of j)
    unfolding outcome_of
    holds = let t = taken j n z in journal_read 2 (start_of j) known_2 (start_48 j (ends_well j t.ends)) (said_in j (walk_of j).entries) all_writable t.fits

    -- OF VERSION 2
    pub header_2 : header_of (outcome_of j) ≡ heading 0 2 records_begin
    header_2 = holds.header

    -- THE SAME START BYTES
    pub same_start : start_of (outcome_of j) ≡ start_of j
    same_start = holds.begins

    -- THE SAME RECORDS, with the bytes that they carry
    pub same_records : said_in (outcome_of j) (walk_of (outcome_of j)).entries ≡ said_in j (walk_of j).entries
    same_records = holds.said

    -- IT ENDS WITH 0
    pub ends : ending_of (outcome_of j) ≡ 0
    ends = holds.ends

    -- and is not converted again
    pub not_again : (m : ℕ) → version_wrong ≡ refusal_of (outcome_of j) m
    not_again m =
        let v : version_of (outcome_of j) ≡ 2 = ap (λ (x : Heading). x.version) header_2 in
        not_version_1 (outcome_of j) m ends (λ o. omega (arith, v, o))

-- ---- THE ROOM
module _ (j room : List ℕ) where
  -- where it is refused, nothing is written
  pub nothing_written : (refusal_of j (length room) ≡ 0 → ⊥) → room_after j room ≡ room
  unfolding room_after pick
  nothing_written w = rw (ne_eqb (refusal_of j (length room)) 0 w) refl

  -- else the outcome stands at its start, and the bytes past it stay
  pub room_written : refusal_of j (length room) ≡ 0 → room_after j room ≡ outcome_of j ++ drop (length (outcome_of j)) room
  unfolding room_after pick
  room_written z =
      let k : 0 + length (outcome_of j) ≡ length (outcome_of j) = omega arith in
      rw (eq-eqb (refusal_of j (length room)) 0 z) (rw k at (sets-eq (outcome_of j) room 0 (rw k (taken j (length room) z).room)))

-- WHAT IS ANSWERED is no longer than the room
pub within_room : (j : List ℕ) (n : ℕ) → (converted_of j n).len ≤ n
unfolding converted_of
within_room j n = pick_by (λ (m : ℕ). m ≤ n) (eqb (refusal_of j n) 0) (λ h. (taken j n (eqb-true (refusal_of j n) 0 h)).room) (λ h. omega arith)
