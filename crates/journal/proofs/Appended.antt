-- APPENDING: a journal that ends with 0 goes on where it ended.
use mathlib.Core.Path.{◌≡◌, sym, ap, ◌∙◌}
use mathlib.Core.List.{List, ◌++◌}
use Prim.Native.Nat.{ℕ, ◌≤◌}
use native.Mathlib.Omega.{arith}
use lib.ListN.{length}
use Rattle.journal.specs.Header.{largest, records_begin, header_of, version_of}
use Rattle.journal.specs.Walking.{entry, Walk, onto, walk, walk_of, ending_of}
use Rattle.journal.specs.Writing.{joined}
use Rattle.journal.proofs.Sides.{by_same}
use Rattle.journal.proofs.Onward.{read_ahead, stop_not_0, end_past}
use Rattle.journal.proofs.Told.{read_on}
use Rattle.journal.proofs.Walks.{along, walk_one, walk-stop, walk_end, good_walk, bad_walk}
use Rattle.journal.proofs.GoodHeader.{header_good, header_longer, version_longer}

abbrev number : Walk → ℕ
number w = w.number

module _ (v : ℕ) (j more : List ℕ) where
  -- a walk that ends with 0 goes on at the journal's end
  pub appended : (at : ℕ) → at ≤ length j → (walk v j at).number ≡ 0 → walk v (j ++ more) at ≡ joined (walk v j at) (walk v (j ++ more) (length j))
  appended =
      along v j (λ at. at ≤ length j → (walk v j at).number ≡ 0 → walk v (j ++ more) at ≡ joined (walk v j at) (walk v (j ++ more) (length j)))
      (λ at r next e on h z.
      let w = walk_one v j at r next e in
      walk_one v (j ++ more) at r next (read_on v j more at r next e)
      ∙ ap (onto (entry at r next)) (on (read_ahead v j at r next e).1 (sym (ap number w) ∙ z))
      ∙ sym (ap (λ (x : Walk). joined x (walk v (j ++ more) (length j))) w))
      (λ at n e h z. absurd (stop_not_0 v j at n e (sym (ap number (walk-stop v j at n e)) ∙ z)))
      (λ at e h z.
      let l = end_past v j at e in
      let q : at ≡ length j = omega (arith, h, l) in
      ap (walk v (j ++ more)) q ∙ sym (ap (λ (x : Walk). joined x (walk v (j ++ more) (length j))) (walk_end v j at e)))

-- a journal that ends with 0 has a good header
pub ends_well : (j : List ℕ) → ending_of j ≡ 0 → (header_of j).number ≡ 0
ends_well j e = by_same (header_of j).number 0 (λ h. h) (λ h. absurd (h (sym (ap number (bad_walk j h)) ∙ e)))

-- THE APPENDING, of whole journals
pub append_journal : (j more : List ℕ) → ending_of j ≡ 0 → length (j ++ more) ≤ largest → walk_of (j ++ more) ≡ joined (walk_of j) (walk (version_of j) (j ++ more) (length j))
append_journal j more e l =
    let h = ends_well j e in
    let v = version_of j in
    let w = good_walk j h in
    good_walk (j ++ more) (header_longer j more l h) ∙ ap (λ (u : ℕ). walk u (j ++ more) records_begin) (version_longer j more l h)
    ∙ appended v j more records_begin (header_good j h).there (sym (ap number w) ∙ e) ∙ sym (ap (λ (x : Walk). joined x (walk v (j ++ more) (length j))) w)
