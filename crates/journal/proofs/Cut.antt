-- What stands at a position of a journal that is cut: the same as in the whole where enough is left to tell, else it is cut short. So no byte
-- behind a record's own has a say in it.
use mathlib.Core.Path.{◌≡◌, refl, sym, ap, ◌∙◌}
use mathlib.Core.Bool.{Bool, true, false}
use mathlib.Core.List.{List, [], ◌∷◌}
use Prim.Native.Nat.{ℕ, suc, ◌+◌, ◌-◌, ◌≤◌, ◌<◌, min}
use native.Mathlib.Omega.{arith}
use borrow.Author.Tests.{lt-ltb, le-ltb, le-leb, lt-leb}
use lib.Dec.{leb, ltb, eqb}
use lib.ListN.{length, take, drop, length-take, drop_of_length-le}
use Rattle.ledger.specs.Choice.{pick}
use Rattle.ledger.specs.Sizes.{longest}
use Rattle.ledger.specs.Numbers.{cut_short, unknown_kind}
use Rattle.journal.specs.Layout.{widths, sum, record_of, carries}
use Rattle.journal.specs.Reading.{fields_in, carrying, opened, front, read_at}
use Rattle.journal.specs.Cutting.{telling, enough}
use Rattle.journal.specs.declared.records.Record.{Record}
use Rattle.journal.specs.Found.{Found, Stop, End}
use Rattle.journal.proofs.Sides.{by_less}
use Rattle.journal.proofs.Runs.{drop-take, fields_cut}

-- the tests, over the numbers that they look at
unfoldable judged : Bool → Record → ℕ → ℕ → ℕ → Found
judged u r have s start = pick u (Stop unknown_kind) (pick (ltb have s) (Stop cut_short) (carrying r (start + s) (have - s)))

unfoldable needed : Bool → Record → ℕ → ℕ
needed u r s = pick u 0 (s + pick (ltb longest (carries r)) 0 (carries r))

same_choice : {A : Type 0} (b : Bool) (x : A) → pick b x x ≡ x
unfolding pick
same_choice true x = refl
same_choice false x = refl

-- a test of how many bytes there are, where as many are there for it
same_test : (have all x : ℕ) → (all < x → have < x) → (x ≤ all → x ≤ have) → ltb have x ≡ ltb all x
same_test have all x f g =
    by_less all x (λ h. lt-ltb have x (f h) ∙ sym (lt-ltb all x h)) (λ h. le-ltb have x (g h) ∙ sym (le-ltb all x h))

-- n bytes of all
abbrev Fewer : Bool → Record → Record → ℕ → ℕ → ℕ → ℕ → Type 0
Fewer u r q n all s start = judged u r (min n all) s start ≡ pick (leb (needed u q s) n) (judged u q all s start) (Stop cut_short)

fewer : (u : Bool) (r q : Record) (n all s start : ℕ) → (s ≤ n → r ≡ q) → Fewer u r q n all s start
unfolding judged needed carrying pick
fewer true r q n all s start e = rw (le-leb 0 n (omega arith)) refl
fewer false r q n all s start e =
    by_less n s
    (λ k. rw (lt-ltb (min n all) s (omega arith), lt-leb (s + pick (ltb longest (carries q)) 0 (carries q)) n (omega arith)) refl)
    (λ k. let whole : ltb (min n all) s ≡ ltb all s = same_test (min n all) all s (λ h. omega arith) (λ h. omega arith) in
    by_less longest (carries q)
    (λ l. rw (e k, lt-ltb longest (carries q) l, whole, le-leb (s + 0) n (omega arith)) refl)
    (λ l. by_less n (s + carries q)
    (λ b. rw (e k, le-ltb longest (carries q) l, lt-leb (s + carries q) n b, whole, lt-ltb (min n all - s) (carries q) (omega arith)) (same_choice (ltb all s) (Stop cut_short)))
    (λ b. rw (e k, le-ltb longest (carries q) l, le-leb (s + carries q) n b, whole, same_test (min n all - s) (all - s) (carries q) (λ h. omega arith) (λ h. omega arith)) refl)))

opened_cut : (v kind start n : ℕ) (bs : List ℕ) → opened v kind start (take n bs) ≡ pick (leb (telling v kind bs) n) (opened v kind start bs) (Stop cut_short)
unfolding opened telling judged needed
opened_cut v kind start n bs =
    let ws = widths v kind in
    rw (length-take n bs)
    (fewer (eqb (length ws) 0) (record_of kind (fields_in ws (take n bs))) (record_of kind (fields_in ws bs)) n (length bs) (sum ws) start (λ h. ap (record_of kind) (fields_cut ws n bs h)))

-- a test further on
shifted : (k t n m : ℕ) → n ≡ k + m → leb (k + t) n ≡ leb t m
shifted k t n m d =
    by_less m t (λ h. lt-leb (k + t) n (omega arith) ∙ sym (lt-leb t m h)) (λ h. le-leb (k + t) n (omega arith) ∙ sym (le-leb t m h))

front_cut : (v at n : ℕ) (bs : List ℕ) → front v at (take (suc n) bs) ≡ pick (leb (enough v bs) (suc n)) (front v at bs) (Stop cut_short)
unfolding front enough pick
front_cut v at n [] = rw (le-leb 0 (suc n) (omega arith)) refl
front_cut v at n (kind ∷ bs) = rw (shifted 1 (telling v kind bs) (suc n) n (omega arith)) (opened_cut v kind (at + 1) n bs)

-- nothing is found behind the last byte
pub past : (v : ℕ) (j : List ℕ) (at : ℕ) → length j ≤ at → read_at v j at ≡ End
unfolding read_at front
past v j at h = rw (drop_of_length-le j h) refl

-- THE CUT, at any position
pub read_cut : (v n : ℕ) (j : List ℕ) (at : ℕ) → read_at v (take n j) at ≡ pick (leb n at) End (pick (leb (at + enough v (drop at j)) n) (read_at v j at) (Stop cut_short))
unfolding read_at pick
read_cut v n j at =
    by_less at n
    (λ h. let m : n - at ≡ suc (n - suc at) = omega arith in
    rw (lt-leb n at h, drop-take at n j, m, shifted at (enough v (drop at j)) n (suc (n - suc at)) (omega arith)) (front_cut v at (n - suc at) (drop at j)))
    (λ h. rw (le-leb n at h) (past v (take n j) at (omega (arith, length-take n j))))
