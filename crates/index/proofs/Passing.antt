-- LOOKING UP GIVES THE SAME as counting: for every number, and 18 exactly past the last record.
use mathlib.Core.Path.{◌≡◌, refl, sym, ap, ◌∙◌}
use mathlib.Core.List.{List}
use Prim.Native.Nat.{ℕ, zero, suc, ◌+◌, ◌-◌, ◌≤◌, ◌<◌}
use native.Mathlib.Omega.{arith}
use Rattle.journal.specs.Reading.{read_at}
use Rattle.journal.specs.declared.records.Record.{Record}
use Rattle.journal.specs.Found.{Found, One, Stop, End}
use Rattle.index.specs.Looking.{passed}

module _ (v : ℕ) (j : List ℕ) (at : ℕ) where
  pub passed_one : (n : ℕ) (r : Record) (next : ℕ) → read_at v j at ≡ One r next → passed (suc n) v j at ≡ passed n v j next
  unfolding passed
  passed_one n r next e = rw e refl

  pub passed-stop : (n m : ℕ) → read_at v j at ≡ Stop m → passed n v j at ≡ at
  unfolding passed
  passed-stop zero m e = refl
  passed-stop (suc n) m e = rw e refl

  pub passed_end : (n : ℕ) → read_at v j at ≡ End → passed n v j at ≡ at
  unfolding passed
  passed_end zero e = refl
  passed_end (suc n) e = rw e refl

-- one passed, so many fewer to pass; and none left
pub one_fewer : (v : ℕ) (j : List ℕ) (n i at from : ℕ) (r : Record) (next : ℕ) → i < n → read_at v j at ≡ One r next → passed (n - i) v j at ≡ passed n v j from → passed (n - (i + 1)) v j next ≡ passed n v j from
one_fewer v j n i at from r next h e p =
    let m : n - i ≡ suc (n - (i + 1)) = omega (arith, h) in
    sym (passed_one v j at (n - (i + 1)) r next e) ∙ ap (λ (k : ℕ). passed k v j at) (sym m) ∙ p

pub none_left : (v : ℕ) (j : List ℕ) (n i at from : ℕ) → n ≤ i → passed (n - i) v j at ≡ passed n v j from → at ≡ passed n v j from
unfolding passed
none_left v j n i at from h p = let m : n - i ≡ 0 = omega (arith, h) in rw m at p

-- some records and some more
further_on_lem : (a b v : ℕ) (j : List ℕ) (at : ℕ) → ((next : ℕ) → passed (a + b) v j next ≡ passed b v j (passed a v j next)) → (x : Found) → read_at v j at ≡ x
    → passed (suc (a + b)) v j at ≡ passed b v j (passed (suc a) v j at)
further_on_lem a b v j at on (One r next) e = passed_one v j at (a + b) r next e ∙ on next ∙ ap (passed b v j) (sym (passed_one v j at a r next e))
further_on_lem a b v j at on (Stop m) e = passed-stop v j at (suc (a + b)) m e ∙ sym (ap (passed b v j) (passed-stop v j at (suc a) m e) ∙ passed-stop v j at b m e)
further_on_lem a b v j at on End e = passed_end v j at (suc (a + b)) e ∙ sym (ap (passed b v j) (passed_end v j at (suc a) e) ∙ passed_end v j at b e)

pub passed-add : (a b v : ℕ) (j : List ℕ) (at : ℕ) → passed (a + b) v j at ≡ passed b v j (passed a v j at)
unfolding passed
passed-add zero b v j at = let z : 0 + b ≡ b = omega arith in rw z refl
passed-add (suc a) b v j at =
    let s : suc a + b ≡ suc (a + b) = omega arith in
    ap (λ (n : ℕ). passed n v j at) s ∙ further_on_lem a b v j at (passed-add a b v j) (read_at v j at) refl
