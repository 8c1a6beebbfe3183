-- The line of a record number, part by part.
use mathlib.Core.Path.{◌≡◌, refl, ap, ◌∙◌}
use mathlib.Core.List.{List, [], ◌++◌}
use Prim.Native.Nat.{ℕ, ◌-◌, ◌≤◌}
use native.Mathlib.Omega.{arith}
use borrow.Author.Tests.{eq-eqb, ne_eqb}
use lib.ListN.{length, take, drop, length-take}
use Rattle.ledger.specs.Choice.{pick}
use Rattle.journal.specs.Layout.{carries}
use Rattle.journal.specs.Header.{version_of}
use Rattle.journal.specs.Reading.{read_at}
use Rattle.journal.specs.Writing.{carried_by}
use Rattle.journal.specs.declared.records.Record.{Record}
use Rattle.journal.specs.Found.{One, Stop, End}
use Rattle.journal.proofs.Laws.{carried_whole}
use Rattle.listing.specs.Listing.{found_text, gone_text}
use Rattle.lab.specs.Looks.{record_text, look_line}

-- what a record carries is no more than a call takes
pub carried-short : (v : ℕ) (j : List ℕ) (at : ℕ) (r : Record) (next : ℕ) → read_at v j at ≡ One r next → (bytes : List ℕ) (len : ℕ) → len ≡ carries r → bytes ≡ take len (drop (next - len) j) → length bytes ≤ 4096
carried-short v j at r next e bytes len l b =
    let c = (carried_whole v j at r next e).0 in
    let t = length-take len (drop (next - len) j) in
    let m = ap length b in
    omega (arith, c, t, m, l)

module _ (j : List ℕ) (place : ℕ) where
  -- a record that is there
  pub told_one : (r : Record) (next : ℕ) → read_at (version_of j) j place ≡ One r next → (bytes : List ℕ) (len : ℕ) → len ≡ carries r → bytes ≡ take len (drop (next - len) j)
      → found_text place r bytes ≡ record_text j place (read_at (version_of j) j place)
  unfolding carried_by
  told_one r next e bytes len l b =
      let c : bytes ≡ take (carries r) (drop (next - carries r) j) = b ∙ ap (λ (n : ℕ). take n (drop (next - n) j)) l in
      rw (e, ← c) refl

  -- and none
  pub told_stop : (n : ℕ) → read_at (version_of j) j place ≡ Stop n → [] ≡ record_text j place (read_at (version_of j) j place)
  told_stop n e = rw e refl

  pub told_end : read_at (version_of j) j place ≡ End → [] ≡ record_text j place (read_at (version_of j) j place)
  told_end e = rw e refl

  -- the whole line
  module _ (name : List ℕ) (answer : ℕ) where
    pub line_found : answer ≡ 0 → name ++ record_text j place (read_at (version_of j) j place) ≡ look_line j name answer place
    unfolding look_line pick
    line_found z = rw (eq-eqb answer 0 z) refl

    pub line_gone : (answer ≡ 0 → ⊥) → name ++ gone_text ≡ look_line j name answer place
    unfolding look_line pick
    line_gone z = rw (ne_eqb answer 0 z) refl
