-- LOOKING UP GIVES THE SAME as counting: for every journal and every number; and 18 exactly past the last record.
use mathlib.Core.Path.{◌≡◌, refl, sym, ap, ◌∙◌}
use mathlib.Core.List.{List, [], ◌∷◌, map}
use Prim.Native.Nat.{ℕ, zero, suc, ◌+◌, ◌*◌, ◌/◌, ◌%◌, ◌≤◌, ◌<◌}
use native.Mathlib.Omega.{arith}
use borrow.Author.Tests.{lt-ltb, le-ltb}
use lib.ListN.{length, get_or}
use Rattle.ledger.specs.Choice.{pick}
use Rattle.ledger.specs.Numbers.{done}
use Rattle.journal.specs.Header.{records_begin, header_of, version_of}
use Rattle.journal.specs.Reading.{read_at}
use Rattle.journal.specs.Walking.{Entry, Walk, entry, walk, walk_of}
use Rattle.journal.specs.declared.records.Record.{Record}
use Rattle.journal.specs.Found.{Found, One, Stop, End}
use Rattle.journal.proofs.Sides.{by_less, by_same}
use Rattle.journal.proofs.GoodHeader.{header_good}
use Rattle.journal.proofs.Walks.{along_walk, walk_one, walk-stop, walk_end, good_walk, bad_walk}
use Rattle.journal.proofs.Onward.{read_ahead}
use Rattle.index.specs.Summary.{every, most_places, places_of, summary_of, index_of}
use Rattle.index.specs.Looking.{Sought, there, nowhere, counted, passed, sought, look_up}
use Rattle.index.proofs.Records.{seven}
use Rattle.index.proofs.Tables.{get_or-table}
use Rattle.index.proofs.Updating.{all_records}
use Rattle.index.proofs.Passing.{passed_one, passed-add}

-- ---- counting: within the list a record is there, past it there is none
pub past_the_last : (es : List Entry) (n : ℕ) → length es ≤ n → counted es n ≡ nowhere
unfolding counted
past_the_last [] n h = refl
past_the_last (e ∷ es) zero h = absurd (omega (arith, h))
past_the_last (e ∷ es) (suc n) h = past_the_last es n (omega (arith, h))

pub up_to_the_last : (es : List Entry) (n : ℕ) → n < length es → (counted es n).answer ≡ done
unfolding counted
up_to_the_last [] n h = absurd (omega (arith, h))
up_to_the_last (e ∷ es) zero h = refl
up_to_the_last (e ∷ es) (suc n) h = up_to_the_last es n (omega (arith, h))

-- ---- counting and passing
module _ (v : ℕ) (j : List ℕ) where
  abbrev entries : ℕ → List Entry
  entries at = (walk v j at).entries

  abbrev Found_at : ℕ → Sought
  Found_at at = there at (read_at v j at)

  -- what is counted from a position on is what stands there when so many records were passed, and the place is that position
  pub record Counts (n at : ℕ) : Type 0 where
    pub same : counted (entries at) n ≡ Found_at (passed n v j at)
    pub place : get_or (map (λ (e : Entry). e.place) (entries at)) n 0 ≡ passed n v j at

  abbrev placed : List Entry → List ℕ
  placed es = map (λ (e : Entry). e.place) es

  one_then : (at : ℕ) (r : Record) (next : ℕ) → read_at v j at ≡ One r next → entries at ≡ entry at r next ∷ entries next
  one_then at r next e = ap (λ (w : Walk). w.entries) (walk_one v j at r next e)

  counts_here : (at : ℕ) (r : Record) (next : ℕ) → read_at v j at ≡ One r next → Counts 0 at
  unfolding counted passed
  counts_here at r next e =
      let w = one_then at r next e in
      record { same = ap (λ (es : List Entry). counted es 0) w ∙ ap (there at) (sym e); place = ap (λ (es : List Entry). get_or (placed es) 0 0) w }

  counts_on : (n at : ℕ) (r : Record) (next : ℕ) → read_at v j at ≡ One r next → Counts n next → Counts (suc n) at
  unfolding counted
  counts_on n at r next e c =
      let w = one_then at r next e in
      let p = sym (passed_one v j at n r next e) in
      record {
        same = ap (λ (es : List Entry). counted es (suc n)) w ∙ c.same ∙ ap Found_at p;
        place = ap (λ (es : List Entry). get_or (placed es) (suc n) 0) w ∙ c.place ∙ p;
      }

  none_after : (at : ℕ) → (entries at ≡ []) → (n : ℕ) → n < length (entries at) → Counts n at
  none_after at e n h = let z : length (entries at) ≡ 0 = ap length e in absurd (omega (arith, h, z))

  by_what : (n at : ℕ) (x : Found) → read_at v j at ≡ x → n < length (entries at) → ((m next : ℕ) → n ≡ suc m → m < length (entries next) → Counts m next) → Counts n at
  by_what zero at (One r next) e h on = counts_here at r next e
  by_what (suc n) at (One r next) e h on =
      let l : length (entries at) ≡ suc (length (entries next)) = ap (λ (w : Walk). length w.entries) (walk_one v j at r next e) in
      counts_on n at r next e (on n next refl (omega (arith, h, l)))
  by_what n at (Stop m) e h on = none_after at (ap (λ (w : Walk). w.entries) (walk-stop v j at m e)) n h
  by_what n at End e h on = none_after at (ap (λ (w : Walk). w.entries) (walk_end v j at e)) n h

  pub counts : (n at : ℕ) → n < length (entries at) → Counts n at
  counts zero at h = by_what zero at (read_at v j at) refl h (λ m next e l. absurd (omega (arith, e)))
  counts (suc n) at h = by_what (suc n) at (read_at v j at) refl h (λ m next e l. let q : n ≡ m = omega (arith, e) in rw (← q) (counts n next (rw q l)))

  -- each record has seven bytes or more
  pub few_records : (at : ℕ) → at ≤ length j → at + 7 * length (entries at) ≤ length j
  few_records =
      along_walk v j (λ at w. at ≤ length j → at + 7 * length w.entries ≤ length j)
      (λ at r next e on h. let s = seven v j at r next e in let o = on (read_ahead v j at r next e).1 in omega (arith, s, o))
      (λ at n h. omega (arith, h))

-- ---- the look-up, from a good header on
module _ (v : ℕ) (j : List ℕ) (at : ℕ) (es : List Entry) (w : (walk v j at).entries ≡ es) (few : length es ≤ every * most_places) where
  nearest : (n : ℕ) → n < length es → passed (n % every) v j (get_or (places_of es) (n / every) 0) ≡ passed n v j at
  unfolding places_of
  nearest n h =
      let i = n / every in
      let l : every * i < length (walk v j at).entries = rw w (omega (arith, h)) in
      let t = get_or-table most_places (λ k. get_or (map (λ (e : Entry). e.place) es) (every * k) 0) i (omega (arith, h, few)) in
      let p = (counts v j (every * i) at l).place in
      let q : get_or (map (λ (e : Entry). e.place) es) (every * i) 0 ≡ passed (every * i) v j at = rw w at p in
      let s : every * i + n % every ≡ n = omega arith in
      rw (t, q) (sym (passed-add (every * i) (n % every) v j at) ∙ ap (λ (m : ℕ). passed m v j at) s)

  pub found : (n : ℕ) → sought (length es) (places_of es) v j n ≡ counted es n
  unfolding sought pick
  found n =
      by_less n (length es)
      (λ h. let l : n < length (walk v j at).entries = rw w h in
      let c : counted es n ≡ there (passed n v j at) (read_at v j (passed n v j at)) = rw w at (counts v j n at l).same in
      rw (lt-ltb n (length es) h, nearest n h) (sym c))
      (λ h. rw (le-ltb n (length es) h) (sym (past_the_last es n h)))

none_there : (places : List ℕ) (v : ℕ) (j : List ℕ) (es : List Entry) (n : ℕ) → length es ≡ 0 → sought (length es) places v j n ≡ counted es n
unfolding sought pick
none_there places v j es n z = rw (le-ltb n (length es) (omega (arith, z))) (sym (past_the_last es n (omega (arith, z))))

-- THE LOOK-UP in the index worked out afresh is what counting gives, of every journal
pub look_counts : (j : List ℕ) (n : ℕ) → look_up (index_of j) j n ≡ counted (walk_of j).entries n
unfolding look_up index_of summary_of
look_counts j n =
    let v = version_of j in
    let es = (walk_of j).entries in
    rw (all_records es)
    (by_same (header_of j).number 0
    (λ z. let g = header_good j z in
    let w : (walk v j records_begin).entries ≡ es = ap (λ (x : Walk). x.entries) (sym (good_walk j z)) in
    let f = few_records v j records_begin g.there in
    let l : length (walk v j records_begin).entries ≡ length es = ap length w in
    found v j records_begin es w (omega (arith, f, l, g.fits)) n)
    (λ b. let e : es ≡ [] = ap (λ (x : Walk). x.entries) (bad_walk j b) in
    let z : length es ≡ 0 = ap length e in
    none_there (summary_of es).places v j es n z))
