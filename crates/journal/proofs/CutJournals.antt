-- THE LAWS of a journal that is cut anywhere, and of one that is cut where its walk stops.
use mathlib.Core.Path.{◌≡◌, refl, sym, ap, ◌∙◌}
use mathlib.Core.List.{List}
use Prim.Native.Nat.{ℕ, ◌≤◌, min}
use native.Mathlib.Omega.{arith}
use borrow.Author.Tests.{ne_eqb}
use lib.ListN.{length, take, length-take}
use lib.Seq.{take_all, take-length}
use Rattle.ledger.specs.Choice.{pick}
use Rattle.journal.specs.Header.{records_begin, header_of, version_of}
use Rattle.journal.specs.Walking.{Walk, walk, behind, walk_of, ending_of}
use Rattle.journal.specs.Cutting.{up_to, cut_number, cut_walk, walk_within}
use Rattle.journal.proofs.Sides.{by_less, by_same}
use Rattle.journal.proofs.GoodHeader.{header_good, heading_good, header_cut, header_kept, version_kept}
use Rattle.journal.proofs.Walks.{good_walk, bad_walk}
use Rattle.journal.proofs.CutWalks.{stops_ahead, none_before, first_of_them, all_up_to, stop_boundary, reaches, walk_cut}

-- a cut behind the last byte leaves all
as_far : (n : ℕ) (j : List ℕ) → take n j ≡ take (min n (length j)) j
as_far n j =
    by_less n (length j) (λ l. let m : min n (length j) ≡ n = omega arith in ap (λ k. take k j) (sym m))
    (λ l. let m : min n (length j) ≡ length j = omega arith in take_all n j l ∙ sym (take-length j) ∙ ap (λ k. take k j) (sym m))

-- THE CUT, of any journal at any byte
pub cut : (n : ℕ) (j : List ℕ) → walk_of (take n j) ≡ walk_within (min n (length j)) j
unfolding walk_within behind pick
cut n j =
    rw (← header_cut n j)
    (by_same (header_of (take n j)).number 0
    (λ h. let w = (header_good (take n j) h).there in
    let m : records_begin ≤ min n (length j) = omega (arith, w, length-take n j) in
    let v = version_of (take n j) in
    rw (heading_good (take n j) h) (good_walk (take n j) h ∙ ap (λ (k : List ℕ). walk v k records_begin) (as_far n j) ∙ walk_cut v (min n (length j)) j records_begin m))
    (λ h. rw (ne_eqb (header_of (take n j)).number 0 h) (bad_walk (take n j) h)))

-- its entries, and the number that ends it
pub cut_entries : (n : ℕ) (j : List ℕ) → (walk_of (take n j)).entries ≡ (walk_within (min n (length j)) j).entries
cut_entries n j = ap (λ (w : Walk). w.entries) (cut n j)

pub cut_ending : (n : ℕ) (j : List ℕ) → ending_of (take n j) ≡ (walk_within (min n (length j)) j).number
cut_ending n j = ap (λ (w : Walk). w.number) (cut n j)

-- where the whole has a good header, and the cut leaves it
pub cut_behind : (n : ℕ) (j : List ℕ) → (header_of j).number ≡ 0 → records_begin ≤ n → walk_of (take n j) ≡ cut_walk n (version_of j) j records_begin (walk_of j)
cut_behind n j good h = rw (good_walk (take n j) (header_kept n j h good), version_kept n j h good, good_walk j good) (walk_cut (version_of j) n j records_begin h)

-- its entries are the first of the whole's, as many as end within the cut
pub cut_first : (n : ℕ) (j : List ℕ) → (header_of j).number ≡ 0 → (walk_of (take n j)).entries ≡ take (length (up_to n (walk_of j).entries)) (walk_of j).entries
unfolding cut_walk
cut_first n j good =
    by_less n records_begin
    (λ l. let none = bad_walk (take n j) (λ h. omega (arith, l, (header_good (take n j) h).there, length-take n j)) in
    rw (none, good_walk j good, none_before (version_of j) j n records_begin (omega (arith, l))) refl)
    (λ l. rw (cut_behind n j good l, good_walk j good) (first_of_them (version_of j) n j records_begin))

-- SALVAGE: cut where its walk stops, a journal with a good header has all its records, and ends with 0
pub salvaged_walk : (j : List ℕ) → (header_of j).number ≡ 0 → walk_of (take (walk_of j).stop j) ≡ record { entries = (walk_of j).entries; stop = (walk_of j).stop; number = 0 }
unfolding cut_walk cut_number pick
salvaged_walk j good =
    let w = good_walk j good in
    let v = version_of j in
    let s = (walk v j records_begin).stop in
    let c : walk_of (take s j) ≡ cut_walk s v j records_begin (walk v j records_begin) = rw w at (cut_behind s j good (stops_ahead v j records_begin)) in
    rw (w, c, all_up_to v j s records_begin (omega arith), reaches v j records_begin, stop_boundary v j records_begin) refl
