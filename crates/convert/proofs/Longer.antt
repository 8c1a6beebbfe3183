-- How long the outcome is: as long as the journal, and one byte more for each event.
use mathlib.Core.Path.{◌≡◌, refl, sym, ap, ◌∙◌}
use mathlib.Core.List.{List, ◌++◌}
use Prim.Native.Nat.{ℕ, suc, ◌+◌, ◌-◌, ◌≤◌}
use native.Mathlib.Omega.{arith}
use lib.ListN.{length, drop, get_or, length-append, length-drop}
use lib.Seq.{length-take-le}
use Rattle.ledger.specs.Choice.{pick}
use Rattle.journal.specs.Layout.{device_bytes, widths, sum, kind_of, carries}
use Rattle.journal.specs.Reading.{read_at}
use Rattle.journal.specs.Header.{records_begin, version_of, start_of}
use Rattle.journal.specs.Walking.{Walk, walk, walk_of, ending_of}
use Rattle.journal.specs.Writing.{bytes_of, carried_by, header_for, said_at, said_in, written, journal_of}
use Rattle.journal.specs.declared.records.Record.{Record}
use Rattle.journal.specs.declared.records.Record.TheVariants.{Event, Interrupt, Write, Seed, Read, BlockingRead}
use Rattle.journal.specs.Found.{One}
use Rattle.journal.proofs.GoodHeader.{header_good}
use Rattle.journal.proofs.Appended.{ends_well}
use Rattle.journal.proofs.CutWalks.{stops_within}
use Rattle.journal.proofs.Laws.{start_48, carried_whole}
use Rattle.journal.proofs.Laying.{head_size, bytes_size, header_size}
use Rattle.journal.proofs.Onward.{stands, read_ahead, stop_not_0, end_past}
use Rattle.journal.proofs.Walks.{along, along_walk, walk_one, walk-stop, walk_end, good_walk}
use Rattle.journal.proofs.Written.{kind_and_fields}
use Rattle.convert.specs.Converting.{outcome_of}
use Rattle.convert.specs.Passes.{one_event, events_in}

-- the fields of an event are one byte longer in version 2, and those of no other record
fields_longer : (r : Record) → sum (widths 2 (kind_of r)) ≡ sum (widths 1 (kind_of r)) + one_event r
unfolding sum widths device_bytes kind_of one_event pick
fields_longer (Event now device stamp value) = refl
fields_longer (Interrupt now number stamp address) = refl
fields_longer (Write now len) = refl
fields_longer (Seed now len credit) = refl
fields_longer (Read now len) = refl
fields_longer (BlockingRead now len) = refl

pub one_at_most : (r : Record) → one_event r ≤ 1
unfolding one_event
one_at_most (Event now device stamp value) = omega arith
one_at_most (Interrupt now number stamp address) = omega arith
one_at_most (Write now len) = omega arith
one_at_most (Seed now len credit) = omega arith
one_at_most (Read now len) = omega arith
one_at_most (BlockingRead now len) = omega arith

module _ (j : List ℕ) where
  -- a record
  record_longer : (at : ℕ) (r : Record) (next : ℕ) → read_at 1 j at ≡ One r next → at + length (bytes_of 2 r (carried_by j r next)) ≡ next + one_event r
  unfolding carried_by
  record_longer at r next e =
      let s = (stands 1 j at r next e).whole in
      let k : kind_of r ≡ get_or j at 0 = ap kind_of s.same ∙ (kind_and_fields 1 (get_or j at 0) (drop (suc at) j) s.known).0 in
      let a : next ≡ at + 1 + sum (widths 1 (kind_of r)) + carries r = rw k s.after in
      let w = carried_whole 1 j at r next e in
      let d : length (drop (next - carries r) j) ≡ length j - (next - carries r) = length-drop (next - carries r) j in
      let c : length (carried_by j r next) ≡ carries r = length-take-le (carries r) (drop (next - carries r) j) (omega (arith, w.1.0, w.1.1)) in
      omega (arith, a, c, bytes_size 2 r (carried_by j r next), head_size 2 r, fields_longer r)

  -- the records of a walk, from where it begins to where it stops
  walk_longer : (at : ℕ) → at + length (written 2 (said_in j (walk 1 j at).entries)) ≡ (walk 1 j at).stop + events_in (walk 1 j at).entries
  unfolding written said_at events_in
  walk_longer =
      along_walk 1 j (λ at w. at + length (written 2 (said_in j w.entries)) ≡ w.stop + events_in w.entries)
      (λ at r next e on.
      let l = length-append (bytes_of 2 r (carried_by j r next)) (written 2 (said_in j (walk 1 j next).entries)) in
      omega (arith, on, l, record_longer at r next e))
      (λ at n. refl)

  -- a walk that ends with 0 stops at the journal's end
  stops_at_the_end : (v at : ℕ) → at ≤ length j → (walk v j at).number ≡ 0 → (walk v j at).stop ≡ length j
  stops_at_the_end v =
      along v j (λ at. at ≤ length j → (walk v j at).number ≡ 0 → (walk v j at).stop ≡ length j)
      (λ at r next e on h z. rw (walk_one v j at r next e) (on (read_ahead v j at r next e).1 (rw (walk_one v j at r next e) at z)))
      (λ at n e h z. absurd (stop_not_0 v j at n e (rw (walk-stop v j at n e) at z)))
      (λ at e h z. rw (walk_end v j at e) (omega (arith, h, end_past v j at e)))

  events_before_lem : (v at : ℕ) → at + events_in (walk v j at).entries ≤ (walk v j at).stop
  unfolding events_in
  events_before_lem v =
      along_walk v j (λ at w. at + events_in w.entries ≤ w.stop)
      (λ at r next e on. omega (arith, on, one_at_most r, (read_ahead v j at r next e).0))
      (λ at n. omega arith)

  -- no walk has more events than the journal has bytes
  pub events_few : (v at : ℕ) → at ≤ length j → events_in (walk v j at).entries ≤ length j
  events_few v at h = omega (arith, events_before_lem v at, stops_within v j at h)

-- THE OUTCOME is one byte longer for each event
pub one_byte_longer : (j : List ℕ) → ending_of j ≡ 0 → version_of j ≡ 1 → length (outcome_of j) ≡ length j + events_in (walk_of j).entries
unfolding outcome_of journal_of
one_byte_longer j z v =
    let h = ends_well j z in
    let g : walk_of j ≡ walk 1 j records_begin = good_walk j h ∙ ap (λ (u : ℕ). walk u j records_begin) v in
    let ss = said_in j (walk 1 j records_begin).entries in
    let w = (header_good j h).there in
    let s = stops_at_the_end j 1 records_begin w (sym (ap (λ (x : Walk). x.number) g) ∙ z) in
    let e : length (header_for 2 (start_of j) ++ written 2 ss) ≡ length j + events_in (walk 1 j records_begin).entries =
    length-append (header_for 2 (start_of j)) (written 2 ss) ∙ omega (arith, header_size 2 (start_of j), start_48 j h, walk_longer j records_begin, s) in
    rw g e
