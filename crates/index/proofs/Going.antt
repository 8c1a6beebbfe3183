-- Going over records and adding each to an index: what is left gives the whole.
use mathlib.Core.Path.{◌≡◌, refl}
use mathlib.Core.List.{List, map}
use Prim.Native.Nat.{ℕ, suc, ◌+◌, ◌-◌, ◌^◌, ◌≤◌, ◌<◌}
use native.Mathlib.Omega.{arith}
use lib.ListN.{length, get_or, set}
use lib.Seq.{set_out, get_or-set_same, get_or-set_other}
use Rattle.journal.specs.Header.{largest}
use Rattle.journal.specs.Layout.{kind_of}
use Rattle.journal.specs.Reading.{read_at}
use Rattle.journal.specs.Walking.{entry, halt, walk}
use Rattle.journal.specs.Writing.{further}
use Rattle.journal.specs.declared.records.Record.{Record}
use Rattle.journal.specs.Found.{One}
use Rattle.journal.proofs.Onward.{read_ahead}
use Rattle.journal.proofs.Walks.{walk_one}
use Rattle.journal.proofs.Sides.{by_same, by_less}
use Rattle.index.specs.Summary.{added, updated}
use Rattle.index.specs.Room.{Roomy}
use Rattle.index.specs.declared.summary.Index.{Index}
use Rattle.index.proofs.Records.{seven, narrow}

pub record Going (v : ℕ) (j : List ℕ) (from base count : ℕ) (before ix : Index) (at many : ℕ) : Type 0 where
  pub within : at ≤ length j
  pub roomy : Roomy many (base + at) ix.kinds ix.reads
  pub whole : updated many ix (map (further base) (walk v j at).entries) ≡ updated count before (map (further base) (walk v j from).entries)
  pub counted : many + length (walk v j at).entries ≡ count + length (walk v j from).entries
  pub number : (walk v j at).number ≡ (walk v j from).number

-- one more of a kind is no more than one record more
few_more : (kinds : List ℕ) (k many : ℕ) → ((i : ℕ) → get_or kinds i 0 ≤ many) → (i : ℕ) → get_or (set kinds k (get_or kinds k 0 + 1)) i 0 ≤ many + 1
few_more kinds k many h i =
    by_same i k
    (λ e. rw e
    (by_less k (length kinds)
    (λ l. rw (get_or-set_same kinds k (get_or kinds k 0 + 1) 0 l) (omega (arith, h k)))
    (λ l. rw (set_out kinds k (get_or kinds k 0 + 1) l) (omega (arith, h k)))))
    (λ n. rw (get_or-set_other kinds k i (get_or kinds k 0 + 1) 0 n) (omega (arith, h i)))

module _ {v : ℕ} {j : List ℕ} {from base count : ℕ} {before ix : Index} {at many : ℕ} (g : Going v j from base count before ix at many) where
  -- what a record that is read may be counted as
  pub records_few : base + length j ≤ largest → many < 8832
  records_few l = omega (arith, g.within, g.roomy.short, l)

  module _ (r : Record) (next : ℕ) (e : read_at v j at ≡ One r next) where
    pub going_on : ((i : ℕ) → get_or j i 0 < 2 ^ 8) → (now : Index) → now ≡ added many ix (entry (base + at) r (base + next)) → Going v j from base count before now next (many + 1)
    unfolding updated added further
    going_on b now p =
        let w = walk_one v j at r next e in
        let s = seven v j at r next e in
        let a = narrow v j at r next b e in
        let m : many + 1 ≡ suc many = omega arith in
        let n : many + suc (length (walk v j next).entries) ≡ count + length (walk v j from).entries = rw w at g.counted in
        rw p
        (record {
          within = (read_ahead v j at r next e).1;
          roomy = record { short = omega (arith, s, g.roomy.short); few = few_more ix.kinds (kind_of r - 1) many g.roomy.few; narrow = omega (arith, a, g.roomy.narrow) };
          whole = rw m (rw w at g.whole);
          counted = omega (arith, n);
          number = rw w at g.number;
        })

  -- where nothing follows, all are there
  pub gone : (n : ℕ) → walk v j at ≡ halt at n
      → (n ≡ (walk v j from).number) × ((ix ≡ updated count before (map (further base) (walk v j from).entries))
      × Roomy (count + length (walk v j from).entries) (base + length j) ix.kinds ix.reads)
  unfolding updated
  gone n w =
      let c : many + 0 ≡ count + length (walk v j from).entries = rw w at g.counted in
      let d : count + length (walk v j from).entries ≡ many = omega (arith, c) in (
        rw w at g.number,
        (
          rw w at g.whole,
          rw d (record { short = omega (arith, g.within, g.roomy.short); few = g.roomy.few; narrow = g.roomy.narrow }),
        ),
      )

-- nothing is passed yet
pub begin : (v : ℕ) (j : List ℕ) (from base count : ℕ) (ix : Index) → from ≤ length j → Roomy count (base + from) ix.kinds ix.reads
    → Going v j from base count ix ix from count
begin v j from base count ix h r = record { within = h; roomy = r; whole = refl; counted = refl; number = refl }
