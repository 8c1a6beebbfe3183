-- Record by record into the room: what is laid so far, with what is still to be laid behind it, is all of them.
use mathlib.Core.Path.{◌≡◌, refl, sym, ap, ◌∙◌}
use mathlib.Core.List.{List, ◌++◌}
use Prim.Native.Nat.{ℕ, ◌+◌, ◌-◌, ◌≤◌}
use native.Mathlib.Omega.{arith}
use lib.ListN.{length, take, drop, length-append}
use lib.Seq.{sets, length-sets}
use Rattle.words.proofs.Rooms.{sets-append}
use Rattle.journal.specs.Layout.{carries}
use Rattle.journal.specs.Reading.{read_at}
use Rattle.journal.specs.Header.{records_begin, start_of}
use Rattle.journal.specs.Walking.{halt, walk, walk_of}
use Rattle.journal.specs.Writing.{bytes_of, carried_by, header_for, said_at, written, journal_of}
use Rattle.journal.specs.declared.records.Record.{Record}
use Rattle.journal.specs.Found.{One}
use Rattle.journal.proofs.Appended.{ends_well}
use Rattle.journal.proofs.Walks.{walk_one, good_walk}
use Rattle.convert.specs.Converting.{outcome_of}
use Rattle.convert.specs.Passes.{rewritten}
use Rattle.convert.proofs.Refusing.{Taken}

-- at a position of the journal and a place of the room, begun at others
pub record Left (j before room : List ℕ) (from to at place : ℕ) : Type 0 where
  pub size : length room ≡ length before
  pub length-left : place + length (rewritten j at) ≡ to + length (rewritten j from)
  pub rest : sets room place (rewritten j at) ≡ sets before to (rewritten j from)

pub begin : (j room : List ℕ) (from to : ℕ) → Left j room room from to from to
begin j room from to = record { size = refl; length-left = refl; rest = refl }

-- the bytes that are handed on are those that the record carries
pub handed_on : (j : List ℕ) (r : Record) (next len : ℕ) (bytes : List ℕ) → bytes ≡ take len (drop (next - len) j) → len ≡ carries r → bytes ≡ carried_by j r next
unfolding carried_by
handed_on j r next len bytes p e = p ∙ ap (λ (n : ℕ). take n (drop (next - n) j)) e

module _ {j before room : List ℕ} {from to at place : ℕ} (w : Left j before room from to at place) where
  module _ (r : Record) (next : ℕ) (e : read_at 1 j at ≡ One r next) (bytes : List ℕ) (same : bytes ≡ carried_by j r next) where
    one_more : bytes_of 2 r bytes ++ rewritten j next ≡ rewritten j at
    unfolding written said_at
    one_more = rw (same, walk_one 1 j at r next e) refl

    sizes : length (bytes_of 2 r bytes) + length (rewritten j next) ≡ length (rewritten j at)
    sizes = sym (length-append (bytes_of 2 r bytes) (rewritten j next)) ∙ ap length one_more

    -- a record has its place
    pub record_fits : to + length (rewritten j from) ≤ length before → place + length (bytes_of 2 r bytes) ≤ length room
    record_fits h = omega (arith, h, w.size, w.length-left, sizes)

    -- and is laid there
    pub past_one : (now : List ℕ) (behind : ℕ) → (now ≡ sets room place (bytes_of 2 r bytes)) × (behind ≡ place + length (bytes_of 2 r bytes)) → Left j before now from to next behind
    past_one now behind p =
        let b = bytes_of 2 r bytes in
        let s : sets now behind (rewritten j next) ≡ sets room place (b ++ rewritten j next) = rw (p.0, p.1) (sets-append room place b (rewritten j next)) in
        record {
          size = ap length p.0 ∙ (length-sets room place b ∙ w.size);
          length-left = omega (arith, p.1, sizes, w.length-left);
          rest = s ∙ (ap (sets room place) one_more ∙ w.rest);
        }

  -- where no record stands, all are laid
  pub all_laid : (n : ℕ) → walk 1 j at ≡ halt at n → (room ≡ sets before to (rewritten j from)) × (place ≡ to + length (rewritten j from))
  unfolding written
  all_laid n h =
      let p : place + 0 ≡ to + length (rewritten j from) = rw h at w.length-left in
      (rw h at w.rest, omega (arith, p))

-- ---- the outcome is a header and the records
module _ (j : List ℕ) (n : ℕ) (t : Taken j n) where
  in_two : header_for 2 (start_of j) ++ rewritten j records_begin ≡ outcome_of j
  unfolding outcome_of journal_of
  in_two =
      let g : walk_of j ≡ walk 1 j records_begin = good_walk j (ends_well j t.ends) ∙ ap (λ (u : ℕ). walk u j records_begin) t.version in
      rw g refl

  lengths : length (header_for 2 (start_of j)) + length (rewritten j records_begin) ≡ length (outcome_of j)
  lengths = sym (length-append (header_for 2 (start_of j)) (rewritten j records_begin)) ∙ ap length in_two

  pub header_fits : length (header_for 2 (start_of j)) ≤ n
  header_fits = omega (arith, lengths, t.room)

  pub records_fit : length (header_for 2 (start_of j)) + length (rewritten j records_begin) ≤ n
  records_fit = omega (arith, lengths, t.room)

  pub outcome_laid : (a b c : List ℕ) (m r : ℕ) → b ≡ sets a 0 (header_for 2 (start_of j)) → m ≡ length (header_for 2 (start_of j))
      → c ≡ sets b m (rewritten j records_begin) → r ≡ m + length (rewritten j records_begin) → (c ≡ sets a 0 (outcome_of j)) × (r ≡ length (outcome_of j))
  outcome_laid a b c m r p q x y =
      let h = header_for 2 (start_of j) in
      let z : 0 + length h ≡ length h = omega arith in
      let s : sets (sets a 0 h) (length h) (rewritten j records_begin) ≡ sets a 0 (h ++ rewritten j records_begin) = rw z at (sets-append a 0 h (rewritten j records_begin)) in
      (x ∙ (rw (p, q) s ∙ ap (sets a 0) in_two), omega (arith, q, y, lengths))
