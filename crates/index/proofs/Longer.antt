-- A journal that is written on, with its index.
use mathlib.Core.Path.{◌≡◌, refl, sym, ap, ◌∙◌}
use mathlib.Core.List.{List, ◌++◌, map}
use Prim.Native.Nat.{ℕ, ◌+◌, ◌-◌, ◌≤◌, ◌<◌}
use native.Mathlib.Omega.{arith}
use borrow.Author.Tests.{eq-eqb, ne_eqb}
use lib.ListN.{length, take, length-append}
use lib.Seq.{length-take-le, sets}
use Rattle.std.specs.Prelude.{Result, Ok, Err}
use Rattle.ledger.specs.Choice.{pick}
use Rattle.ledger.specs.Refusals.{number_of}
use Rattle.ledger.specs.declared.refusals.Refusal.{Refusal}
use Rattle.ledger.specs.Numbers.{journal_too_large}
use Rattle.journal.specs.Header.{largest, header_of, version_of}
use Rattle.journal.specs.Layout.{sum}
use Rattle.journal.specs.Walking.{Walk, walk, walk_of, ending_of}
use Rattle.journal.specs.Writing.{further}
use Rattle.journal.proofs.GoodHeader.{too_large, header_number}
use Rattle.journal.proofs.Walks.{bad_walk}
use Rattle.journal.proofs.Refused.{not_0}
use Rattle.journal.proofs.Moved.{appended_alone}
use Rattle.index.specs.Summary.{summary_of, index_of, records_in, updated}
use Rattle.index.specs.Room.{Roomy}
use Rattle.index.specs.Calls.{fresh_of, fresh_in, appended, Extended, room_after}
use Rattle.index.specs.declared.summary.Index.{Index}
use Rattle.index.specs.declared.fresh.Fresh.{Fresh}
use Rattle.index.specs.declared.appending.Appended.{Appended}
use Rattle.index.proofs.Updating.{updated-fresh, all_records}
use Rattle.index.proofs.Working.{fresh, in_room}

abbrev number : Walk → ℕ
number w = w.number

abbrev pub answer : ℕ → ℕ → Index → Appended
answer n len ix = record { number = n; len = len; index = ix }

-- a journal of more than 61,440 bytes ends with 12
pub ends_too_large : (j : List ℕ) → largest < length j → journal_too_large ≡ ending_of j
ends_too_large j h =
    let e = header_number j in
    let n : (header_of j).number ≡ journal_too_large = e ∙ sym (too_large (length j) j h) in
    sym (ap number (bad_walk j (λ z. omega (arith, z, n))) ∙ n)

-- what is worked out says how the journal ends, and its index
pub ends_with : (j : List ℕ) (n : ℕ) (ix : Index) → fresh_of j ≡ fresh n ix → ending_of j ≡ n
unfolding fresh_of
ends_with j n ix e = ap (λ (x : Fresh). x.number) e

pub worked_out : (j : List ℕ) (ix : Index) → fresh_of j ≡ fresh 0 ix → ix ≡ index_of j
unfolding fresh_of pick
worked_out j ix e = let z = ends_with j 0 ix e in sym (rw z at (ap (λ (x : Fresh). x.index) e))

module _ (j more : List ℕ) (e : ending_of j ≡ 0) (l : length (j ++ more) ≤ largest) where
  -- THE LONGER JOURNAL ends with the number of what was appended
  pub ends_longer : ending_of (j ++ more) ≡ (walk (version_of j) more 0).number
  ends_longer = ap number (appended_alone j more e l)

  -- ITS INDEX is the updated one
  pub index_longer : updated (records_in (index_of j)) (index_of j) (map (further (length j)) (walk (version_of j) more 0).entries) ≡ index_of (j ++ more)
  unfolding index_of
  index_longer =
      rw (all_records (walk_of j).entries) (updated-fresh (walk_of j).entries (map (further (length j)) (walk (version_of j) more 0).entries))
      ∙ sym (ap (λ (w : Walk). summary_of w.entries) (appended_alone j more e l))

-- ---- what a call answers and leaves
module _ (room : List ℕ) (len : ℕ) (kept : Index) (more : List ℕ) (n : ℕ) where
  -- refused
  pub refused_with : (m : ℕ) → m ≡ n → (m ≡ 0 → ⊥) → (r : Appended) → r ≡ answer m len kept → (r ≡ appended n room len kept more) × (room ≡ room_after n room len more)
  unfolding appended room_after pick
  refused_with m e h r t = rw (← e, ne_eqb m 0 h) (t, refl)

  -- and not
  pub done_with : n ≡ 0 → (ix : Index) → ix ≡ index_of (take len room ++ more) → (left : List ℕ) → left ≡ sets room len more
      → (answer 0 (len + length more) ix ≡ appended n room len kept more) × (left ≡ room_after n room len more)
  unfolding appended room_after pick
  done_with z ix e left l = rw (eq-eqb n 0 z) (ap (answer 0 (len + length more)) e, l)

-- the same as the code tells it
module _ (room : List ℕ) (len : ℕ) (more : List ℕ) where
  pub not_extended : (why : Refusal) (n : ℕ) → number_of why ≡ n → Extended (Err why) n room len more room
  unfolding room_after pick
  not_extended why n e = record { number = e; index = tt; room_then = rw (← e, ne_eqb (number_of why) 0 (not_0 why)) refl }

  pub extended : (n : ℕ) → n ≡ 0 → (ix : Index) → ix ≡ index_of (take len room ++ more) → (left : List ℕ) → left ≡ sets room len more → Extended (Ok ix) n room len more left
  unfolding room_after pick
  extended n z ix e left l = record { number = sym z; index = e; room_then = rw (eq-eqb n 0 z) l }

pub by_the_number : {done : Result Index Refusal} {m n len : ℕ} {room more left : List ℕ} → m ≡ n → Extended done m room len more left → Extended done n room len more left
by_the_number e h = rw (← e) h

module _ (room : List ℕ) (len : ℕ) (ix : Index) (more : List ℕ) (whole : length room ≡ largest) (fits : len ≤ largest) where
  abbrev J : List ℕ
  J = take len room

  size : length J ≡ len
  size = length-take-le len room (omega (arith, whole, fits))

  -- what is appended does not fit
  pub too_long : largest - len < length more → journal_too_large ≡ ending_of (J ++ more)
  too_long h = ends_too_large (J ++ more) (omega (arith, h, fits, size, length-append J more))

  module _ (known : fresh_in room len ≡ fresh 0 ix) (short : length more ≤ largest - len) where
    fresh-known : fresh_of J ≡ fresh 0 ix
    fresh-known = sym (in_room room len fits) ∙ known

    together : length (J ++ more) ≤ largest
    together = omega (arith, short, fits, size, length-append J more)

    -- by the version that was found
    module _ (v : ℕ) (version : v ≡ version_of J) where
      pub number_longer : ending_of (J ++ more) ≡ (walk v more 0).number
      number_longer = rw version (ends_longer J more (ends_with J 0 ix fresh-known) together)

      pub updated_longer : (count : ℕ) → count ≡ sum ix.kinds → updated count ix (map (further len) (walk v more 0).entries) ≡ index_of (J ++ more)
      unfolding records_in
      updated_longer count c =
          let w = worked_out J ix fresh-known in
          let i = index_longer J more (ends_with J 0 ix fresh-known) together in
          rw (version, c, w) (rw size at i)

-- room for what comes
pub roomy_on : (ix : Index) {len count : ℕ} → count ≡ sum ix.kinds → Roomy (records_in ix) len ix.kinds ix.reads → Roomy count (len + 0) ix.kinds ix.reads
unfolding records_in
roomy_on ix c r = rw c (record { short = omega (arith, r.short); few = r.few; narrow = r.narrow })
