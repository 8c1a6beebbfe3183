-- A record ends where what tells it ends. So it is read of a journal that is cut exactly if it ends within the cut, and is the same.
use mathlib.Core.Path.{◌≡◌, refl, sym, ◌∙◌}
use mathlib.Core.Bool.{Bool, true, false}
use mathlib.Core.List.{List, ◌++◌}
use Prim.Native.Nat.{ℕ, ◌+◌, ◌≤◌, ◌<◌}
use native.Mathlib.Omega.{arith}
use borrow.Author.Tests.{le-leb, lt-leb}
use lib.Dec.{leb}
use lib.ListN.{length, take, drop, drop_of_length-le}
use lib.Seq.{take-append_seam}
use Rattle.ledger.specs.Choice.{pick}
use Rattle.ledger.specs.Numbers.{cut_short}
use Rattle.journal.specs.Reading.{read_at}
use Rattle.journal.specs.Cutting.{enough}
use Rattle.journal.specs.declared.records.Record.{Record}
use Rattle.journal.specs.Found.{One, Stop, End}
use Rattle.journal.proofs.Cut.{read_cut}
use Rattle.journal.proofs.Onward.{read_ahead, told_by, one_is_not_end, stop_is_not_one}

pub none_to_tell : (v : ℕ) (j : List ℕ) (at : ℕ) → length j ≤ at → enough v (drop at j) ≡ 0
unfolding enough
none_to_tell v j at h = rw (drop_of_length-le j h) refl

-- ---- a journal that is cut at n
module _ (v n : ℕ) (j : List ℕ) where
  -- what is read of the cut journal, by what is read of the whole
  pub read_kept : (at : ℕ) → at < n → at + enough v (drop at j) ≤ n → read_at v (take n j) at ≡ read_at v j at
  unfolding pick
  read_kept at h k = read_cut v n j at ∙ rw (lt-leb n at h, le-leb (at + enough v (drop at j)) n k) refl

  pub read_off : (at : ℕ) → at < n → n < at + enough v (drop at j) → read_at v (take n j) at ≡ Stop cut_short
  unfolding pick
  read_off at h k = read_cut v n j at ∙ rw (lt-leb n at h, lt-leb (at + enough v (drop at j)) n k) refl

  pub read_none : (at : ℕ) → n ≤ at → read_at v (take n j) at ≡ End
  unfolding pick
  read_none at h = read_cut v n j at ∙ rw (le-leb n at h) refl

  -- so a record that ends within the cut is read, and is the same
  pub read_shorter : (at : ℕ) (r : Record) (next : ℕ) → read_at v j at ≡ One r next → next ≤ n → read_at v (take n j) at ≡ One r next
  read_shorter at r next e h =
      let a = (read_ahead v j at r next e).0 in
      let t = told_by v j at r next e in
      read_kept at (omega (arith, a, h)) (omega (arith, t, h)) ∙ e

  -- and no other is
  pub read_longer : (at : ℕ) (r : Record) (next : ℕ) → read_at v (take n j) at ≡ One r next → read_at v j at ≡ One r next
  unfolding pick
  read_longer at r next e = past_the_cut (leb n at) (sym (read_cut v n j at) ∙ e)
    where
      told : (b : Bool) → pick b (read_at v j at) (Stop cut_short) ≡ One r next → read_at v j at ≡ One r next
      told true q = q
      told false q = absurd (stop_is_not_one cut_short r next q)

      past_the_cut : (b : Bool) → pick b End (pick (leb (at + enough v (drop at j)) n) (read_at v j at) (Stop cut_short)) ≡ One r next → read_at v j at ≡ One r next
      past_the_cut true q = absurd (one_is_not_end r next (sym q))
      past_the_cut false q = told (leb (at + enough v (drop at j)) n) q

-- a record that is read is still read where more bytes follow
pub read_on : (v : ℕ) (j more : List ℕ) (at : ℕ) (r : Record) (next : ℕ) → read_at v j at ≡ One r next → read_at v (j ++ more) at ≡ One r next
read_on v j more at r next e = read_longer v (length j) (j ++ more) at r next (rw (take-append_seam j more) e)
