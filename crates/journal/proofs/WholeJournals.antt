-- A whole journal that is written, header and records, is read back: its header is good and of that version, it has these start bytes and these
-- records, and it ends with 0.
use mathlib.Core.Path.{◌≡◌, refl, ap, ◌∙◌}
use mathlib.Core.Bool.{true}
use mathlib.Core.List.{List, ◌++◌, append_assoc}
use Prim.Native.Nat.{ℕ, ◌^◌, ◌≤◌, ◌<◌}
use native.Mathlib.Omega.{arith}
use borrow.Author.Tests.{eqb-true, ne_eqb}
use lib.ListN.{length, take, length-append}
use lib.Seq.{take_at, drop_at}
use Rattle.ledger.specs.Sizes.{start_bytes}
use Rattle.words.specs.Bytes.{le_bytes}
use Rattle.words.proofs.Numbers.{length_le_bytes, number_bytes_lem}
use Rattle.journal.specs.Header.{largest, records_begin, heading, known, header_of, start_of}
use Rattle.journal.specs.Reading.{num}
use Rattle.journal.specs.Walking.{walk, walk_of, ending_of}
use Rattle.journal.specs.Writing.{header_for, Said, said_in, written, journal_of, AllWritable}
use Rattle.journal.specs.Found.{Heading}
use Rattle.journal.proofs.Sides.{by_same}
use Rattle.journal.proofs.GoodHeader.{GoodHeader, good_header}
use Rattle.journal.proofs.Walks.{good_walk}
use Rattle.journal.proofs.Said.{Walked, walk-written}
use Rattle.journal.proofs.Laying.{header_size}

-- what a journal of a version holds: these start bytes and these records, all of them whole
pub record Holds (v : ℕ) (start : List ℕ) (ss : List Said) (j : List ℕ) : Type 0 where
  pub header : header_of j ≡ heading 0 v records_begin
  pub begins : start_of j ≡ start
  pub said : said_in j (walk_of j).entries ≡ ss
  pub ends : ending_of j ≡ 0

-- a version that there is fits into its two bytes
narrow_version : (v : ℕ) → known v ≡ true → v < 2 ^ 16
unfolding known
narrow_version v k = by_same v 1 (λ e. omega (arith, e)) (λ n. let e = eqb-true v 2 (rw (ne_eqb v 1 n) at k) in omega (arith, e))

module _ (v : ℕ) (start : List ℕ) (k : known v ≡ true) (n : length start ≡ start_bytes) where
  module _ (rest : List ℕ) where
    version_laid : num 2 (header_for v start ++ rest) 3 ≡ v
    unfolding header_for
    version_laid =
        let l = length_le_bytes 2 v in
        rw (append_assoc (le_bytes 2 v) start rest, take_at (le_bytes 2 v) (start ++ rest) 2 l) (number_bytes_lem 2 v (narrow_version v k))

    header_good : length (header_for v start ++ rest) ≤ largest → GoodHeader (length (header_for v start ++ rest)) (header_for v start ++ rest)
    unfolding header_for
    header_good l =
        record {
          fits = l;
          there = let e = length-append (header_for v start) rest in let f = header_size v start in omega arith;
          first = refl;
          second = refl;
          third = refl;
          version = rw version_laid k;
        }

    start_laid : start_of (header_for v start ++ rest) ≡ start
    unfolding header_for start_of
    start_laid =
        let l = length_le_bytes 2 v in
        rw (append_assoc (le_bytes 2 v) start rest) (ap (take start_bytes) (drop_at (le_bytes 2 v) (start ++ rest) 2 l) ∙ take_at start rest start_bytes n)

  -- WHAT IS WRITTEN AS A JOURNAL is read back
  pub journal_read : (ss : List Said) → AllWritable v ss → length (journal_of v start ss) ≤ largest → Holds v start ss (journal_of v start ss)
  unfolding journal_of
  journal_read ss w l =
      let j = header_for v start ++ written v ss in
      let h : header_of j ≡ heading 0 v records_begin = good_header j (header_good (written v ss) l) ∙ ap (λ (u : ℕ). heading 0 u records_begin) (version_laid (written v ss)) in
      let z : length (header_for v start) ≡ records_begin = omega (arith, header_size v start, n) in
      let g : walk_of j ≡ walk v j records_begin = good_walk j (ap (λ (x : Heading). x.number) h) ∙ ap (λ (x : Heading). walk x.version j records_begin) h in
      let q : Walked v (header_for v start) ss (walk_of j) = rw (g, ← z) (walk-written v (header_for v start) ss w) in
      record { header = h; begins = start_laid (written v ss); said = q.said; ends = q.number }
