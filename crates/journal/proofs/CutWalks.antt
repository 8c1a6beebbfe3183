-- What a cut leaves of a walk: the entries that end within it, no more and no fewer, and the number that is then found behind them.
use mathlib.Core.Path.{◌≡◌, refl, sym, ap, ◌∙◌}
use mathlib.Core.Bool.{true, false}
use mathlib.Core.List.{List, [], ◌∷◌}
use Prim.Native.Nat.{ℕ, ◌+◌, ◌≤◌, ◌<◌}
use native.Mathlib.Omega.{arith}
use borrow.Author.Tests.{le-leb, lt-leb, eq-eqb, ne_eqb}
use lib.ListN.{length, take, drop}
use Rattle.ledger.specs.Choice.{pick}
use Rattle.ledger.specs.Numbers.{cut_short}
use Rattle.journal.specs.Reading.{read_at}
use Rattle.journal.specs.Walking.{Entry, entry, onto, halt, walk}
use Rattle.journal.specs.Cutting.{up_to, reached, boundary, enough, cut_number, cut_walk}
use Rattle.journal.specs.declared.records.Record.{Record}
use Rattle.journal.specs.Found.{One, Stop, End}
use Rattle.journal.proofs.Sides.{by_less}
use Rattle.journal.proofs.Onward.{read_ahead, told_by, end_past}
use Rattle.journal.proofs.Told.{none_to_tell, read_kept, read_off, read_none, read_shorter}
use Rattle.journal.proofs.Walks.{along, along_walk, walk_one, walk-stop, walk_end}

-- ---- where a walk goes
module _ (v : ℕ) (j : List ℕ) where
  -- onward
  pub stops_ahead : (at : ℕ) → at ≤ (walk v j at).stop
  stops_ahead = along_walk v j (λ at w. at ≤ w.stop) (λ at r next e on. omega (arith, on, (read_ahead v j at r next e).0)) (λ at n. omega arith)

  -- and from a position within the journal it stops within it
  pub stops_within : (at : ℕ) → at ≤ length j → (walk v j at).stop ≤ length j
  stops_within = along_walk v j (λ at w. at ≤ length j → w.stop ≤ length j) (λ at r next e on h. on (read_ahead v j at r next e).1) (λ at n h. h)

  -- no entry ends at or before the position where it begins
  pub none_before : (n at : ℕ) → n ≤ at → up_to n (walk v j at).entries ≡ []
  unfolding up_to pick
  none_before n =
      along_walk v j (λ at w. n ≤ at → up_to n w.entries ≡ [])
      (λ at r next e on h. let a = (read_ahead v j at r next e).0 in rw (lt-leb next n (omega (arith, a, h))) (on (omega (arith, a, h))))
      (λ at m h. refl)

  no_boundary_before : (n at : ℕ) → n < at → boundary n at (walk v j at).entries ≡ false
  unfolding boundary pick
  no_boundary_before n =
      along_walk v j (λ at w. n < at → boundary n at w.entries ≡ false)
      (λ at r next e on h. let a = (read_ahead v j at r next e).0 in rw (ne_eqb n at (λ q. omega (arith, q, h))) (on (omega (arith, a, h))))
      (λ at m h. ne_eqb n at (λ q. omega (arith, q, h)))

  cut_before : (n at : ℕ) → n < at → cut_number n v j at (walk v j at) ≡ cut_short
  unfolding cut_number pick
  cut_before n at h =
      let s = stops_ahead at in
      rw (no_boundary_before n at h, lt-leb ((walk v j at).stop + enough v (drop (walk v j at).stop j)) n (omega arith)) refl

  -- up to where it stops it has all its entries; and there is a boundary, where the last of them ends
  pub all_up_to : (n at : ℕ) → (walk v j at).stop ≤ n → up_to n (walk v j at).entries ≡ (walk v j at).entries
  unfolding up_to pick
  all_up_to n =
      along_walk v j (λ at w. w.stop ≤ n → up_to n w.entries ≡ w.entries)
      (λ at r next e on h. rw (le-leb next n (omega (arith, h, stops_ahead next))) (ap (λ (es : List Entry). entry at r next ∷ es) (on h)))
      (λ at m h. refl)

  pub stop_boundary : (at : ℕ) → boundary (walk v j at).stop at (walk v j at).entries ≡ true
  unfolding boundary pick
  stop_boundary =
      along_walk v j (λ at w. boundary w.stop at w.entries ≡ true)
      (λ at r next e on. rw (ne_eqb (walk v j next).stop at (λ q. omega (arith, q, stops_ahead next, (read_ahead v j at r next e).0))) on)
      (λ at m. eq-eqb at at refl)

  pub reaches : (at : ℕ) → reached at (walk v j at).entries ≡ (walk v j at).stop
  unfolding reached
  reaches = along_walk v j (λ at w. reached at w.entries ≡ w.stop) (λ at r next e on. on) (λ at m. refl)

-- ---- the entries up to a cut are the first of them
first_then : (n : ℕ) (e : Entry) (es : List Entry) → up_to n es ≡ take (length (up_to n es)) es → (n < e.next → up_to n es ≡ [])
    → up_to n (e ∷ es) ≡ take (length (up_to n (e ∷ es))) (e ∷ es)
unfolding up_to pick
first_then n e es on none =
    by_less n e.next (λ h. rw (lt-leb e.next n h, none h) refl) (λ h. rw (le-leb e.next n h) (ap (λ (l : List Entry). e ∷ l) on))

pub first_of_them : (v n : ℕ) (j : List ℕ) (at : ℕ) → up_to n (walk v j at).entries ≡ take (length (up_to n (walk v j at).entries)) (walk v j at).entries
unfolding up_to
first_of_them v n j =
    along_walk v j (λ at w. up_to n w.entries ≡ take (length (up_to n w.entries)) w.entries)
    (λ at r next e on. first_then n (entry at r next) (walk v j next).entries on (λ l. none_before v j n next (omega (arith, l))))
    (λ at m. refl)

-- ---- the cut
module _ (v n : ℕ) (j : List ℕ) where
  here : (es : List Entry) → boundary n n es ≡ true
  unfolding boundary pick
  here [] = eq-eqb n n refl
  here (e ∷ es) = rw (eq-eqb n n refl) refl

  abbrev Kept : ℕ → Type 0
  Kept at = walk v (take n j) at ≡ cut_walk n v j at (walk v j at)

  at_the_cut : (at : ℕ) → at ≡ n → Kept at
  unfolding cut_walk cut_number reached pick
  at_the_cut at h = rw (walk_end v (take n j) at (read_none v n j at (omega (arith, h))), h, none_before v j n n (omega arith), here (walk v j n).entries) refl

  before_the_cut : (at : ℕ) → (at < n → Kept at) → at ≤ n → Kept at
  before_the_cut at f h = by_less at n f (λ l. at_the_cut at (omega (arith, h, l)))

  at_one : (at : ℕ) (r : Record) (next : ℕ) → read_at v j at ≡ One r next → (next ≤ n → Kept next) → at < n → Kept at
  unfolding cut_walk cut_number reached boundary up_to pick
  at_one at r next e on h =
      by_less n next
      (λ l. let t = told_by v j at r next e in
      rw (walk-stop v (take n j) at cut_short (read_off v n j at h (omega (arith, t, l))), walk_one v j at r next e, lt-leb next n l, ne_eqb n at (λ q. omega (arith, q, h)), none_before v j n next (omega (arith, l)))
      (ap (halt at) (sym (cut_before v j n next l))))
      (λ l. rw (walk_one v (take n j) at r next (read_shorter v n j at r next e l), walk_one v j at r next e, le-leb next n l, ne_eqb n at (λ q. omega (arith, q, h)))
      (ap (onto (entry at r next)) (on l)))

  at-stop : (at m : ℕ) → read_at v j at ≡ Stop m → at < n → Kept at
  unfolding cut_walk cut_number reached boundary up_to pick
  at-stop at m e h =
      let told = at + enough v (drop at j) in
      by_less n told
      (λ l. rw (walk-stop v (take n j) at cut_short (read_off v n j at h l), walk-stop v j at m e, ne_eqb n at (λ q. omega (arith, q, h)), lt-leb told n l) refl)
      (λ l. rw (walk-stop v (take n j) at m (read_kept v n j at h l ∙ e), walk-stop v j at m e, ne_eqb n at (λ q. omega (arith, q, h)), le-leb told n l) refl)

  at_end : (at : ℕ) → read_at v j at ≡ End → at < n → Kept at
  unfolding cut_walk cut_number reached boundary up_to pick
  at_end at e h =
      let z = none_to_tell v j at (end_past v j at e) in
      rw (walk_end v (take n j) at (read_kept v n j at h (omega (arith, z, h)) ∙ e), walk_end v j at e, ne_eqb n at (λ q. omega (arith, q, h)), z, le-leb (at + 0) n (omega arith)) refl

  -- THE CUT of a walk
  pub walk_cut : (at : ℕ) → at ≤ n → walk v (take n j) at ≡ cut_walk n v j at (walk v j at)
  walk_cut =
      along v j (λ at. at ≤ n → Kept at)
      (λ at r next e on. before_the_cut at (at_one at r next e on))
      (λ at m e. before_the_cut at (at-stop at m e))
      (λ at e. before_the_cut at (at_end at e))
