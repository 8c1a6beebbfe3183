-- The refusals one by one: which number each test gives where those before it pass, and what is known where all pass.
use mathlib.Core.Path.{◌≡◌, refl, sym, ap, ◌∙◌}
use mathlib.Core.Bool.{Bool, true, false}
use mathlib.Core.List.{List, ◌∷◌}
use Prim.Native.Nat.{ℕ, suc, ◌+◌, ◌≤◌, ◌<◌}
use native.Mathlib.Omega.{arith}
use borrow.Author.Tests.{ltb-false, lt-ltb, le-ltb, eqb-true, eq-eqb, ne_eqb}
use lib.ListN.{length}
use lib.Seq.{sets}
use Rattle.ledger.specs.Choice.{pick, first}
use Rattle.ledger.specs.Numbers.{no_such_device, version_wrong, journal_too_large, room_too_short}
use Rattle.journal.specs.Header.{largest, records_begin, header_of, version_of}
use Rattle.journal.specs.Walking.{walk, walk_of, ending_of}
use Rattle.journal.specs.Found.{Heading}
use Rattle.journal.proofs.Sides.{by_same}
use Rattle.journal.proofs.GoodHeader.{header_good, heading_good}
use Rattle.journal.proofs.Walks.{refused, good_walk}
use Rattle.convert.specs.Converting.{outcome_of, beyond, refusal_of, converted_of, room_after}
use Rattle.convert.specs.Passes.{events_in, Judged, judged}
use Rattle.convert.proofs.Longer.{events_few, one_byte_longer}

module _ (j : List ℕ) (n : ℕ) where
  -- all that is known where nothing refuses
  pub record Taken : Type 0 where
    pub ends : ending_of j ≡ 0
    pub version : version_of j ≡ 1
    pub devices : beyond (walk_of j).entries ≡ false
    pub fits : length (outcome_of j) ≤ largest
    pub room : length (outcome_of j) ≤ n

  pub does_not_end : (ending_of j ≡ 0 → ⊥) → ending_of j ≡ refusal_of j n
  unfolding refusal_of first pick
  does_not_end e = rw (ne_eqb (ending_of j) 0 e) refl

  pub not_version_1 : ending_of j ≡ 0 → (version_of j ≡ 1 → ⊥) → version_wrong ≡ refusal_of j n
  unfolding refusal_of first pick
  not_version_1 e v = rw (e, ne_eqb (version_of j) 1 v) refl

  pub no_device : ending_of j ≡ 0 → version_of j ≡ 1 → beyond (walk_of j).entries ≡ true → no_such_device ≡ refusal_of j n
  unfolding refusal_of first pick
  no_device e v d = rw (e, v, d) refl

  pub too_large : ending_of j ≡ 0 → version_of j ≡ 1 → beyond (walk_of j).entries ≡ false → largest < length (outcome_of j) → journal_too_large ≡ refusal_of j n
  unfolding refusal_of first pick
  too_large e v d l = rw (e, v, d, lt-ltb largest (length (outcome_of j)) l) refl

  pub too_short : ending_of j ≡ 0 → version_of j ≡ 1 → beyond (walk_of j).entries ≡ false → length (outcome_of j) ≤ largest → n < length (outcome_of j) → room_too_short ≡ refusal_of j n
  unfolding refusal_of first pick
  too_short e v d l s = rw (e, v, d, le-ltb largest (length (outcome_of j)) l, lt-ltb n (length (outcome_of j)) s) refl

  pub nothing_refuses : Taken → 0 ≡ refusal_of j n
  unfolding refusal_of first pick
  nothing_refuses t = rw (t.ends, t.version, t.devices, le-ltb largest (length (outcome_of j)) t.fits, le-ltb n (length (outcome_of j)) t.room) refl

-- ---- by the header that was found, and by what the pass over the records found
module _ (j : List ℕ) (h : Heading) (e : h ≡ header_of j) where
  pub header_refuses : (n : ℕ) → (h.number ≡ 0 → ⊥) → h.number ≡ refusal_of j n
  header_refuses n w = let k = refused j h e w in k ∙ does_not_end j n (λ z. w (k ∙ z))

  pub record Found (f : Judged) : Type 0 where
    pub ending : f.number ≡ ending_of j
    pub devices : f.strange ≡ beyond (walk_of j).entries
    pub many : f.events ≡ events_in (walk_of j).entries
    pub version : h.version ≡ version_of j
    pub short : length j ≤ largest
    pub few : f.events ≤ length j

  pub found_all : (f : Judged) → h.number ≡ 0 → f ≡ judged (walk h.version j h.place) → Found f
  unfolding judged
  found_all f z p =
      let g : (header_of j).number ≡ 0 = sym (ap (λ (x : Heading). x.number) e) ∙ z in
      let w : walk h.version j h.place ≡ walk_of j = ap (λ (x : Heading). walk x.version j x.place) (e ∙ heading_good j g) ∙ sym (good_walk j g) in
      let q : f ≡ judged (walk_of j) = rw w at p in
      let k = header_good j g in
      let m : events_in (walk_of j).entries ≤ length j = rw (good_walk j g) (events_few j (version_of j) records_begin k.there) in
      record {
        ending = ap (λ (x : Judged). x.number) q;
        devices = ap (λ (x : Judged). x.strange) q;
        many = ap (λ (x : Judged). x.events) q;
        version = ap (λ (x : Heading). x.version) e;
        short = k.fits;
        few = rw (ap (λ (x : Judged). x.events) q) m;
      }

  pub sized : (f : Judged) → Found f → f.number ≡ 0 → h.version ≡ 1 → length (outcome_of j) ≡ length j + f.events
  sized f k z v = one_byte_longer j (sym k.ending ∙ z) (sym k.version ∙ v) ∙ ap (λ (n : ℕ). length j + n) (sym k.many)

-- ---- where nothing refuses
first_0 : (n : ℕ) (ns : List ℕ) → first (n ∷ ns) ≡ 0 → (n ≡ 0) × (first ns ≡ 0)
unfolding first pick
first_0 n ns e = by_same n 0 (λ z. (z, rw (eq-eqb n 0 z) at e)) (λ w. absurd (w (rw (ne_eqb n 0 w) at e)))

not_this : (t : Bool) (n : ℕ) → pick t (suc n) 0 ≡ 0 → t ≡ false
unfolding pick
not_this true n e = let z : suc n ≡ 0 = e in absurd (omega (arith, z))
not_this false n e = refl

but_this : (t : Bool) (n : ℕ) → pick t 0 (suc n) ≡ 0 → t ≡ true
unfolding pick
but_this true n e = refl
but_this false n e = let z : suc n ≡ 0 = e in absurd (omega (arith, z))

pub taken : (j : List ℕ) (n : ℕ) → refusal_of j n ≡ 0 → Taken j n
unfolding refusal_of
taken j n e =
    let a = first_0 _ _ e in
    let b = first_0 _ _ a.1 in
    let c = first_0 _ _ b.1 in
    let d = first_0 _ _ c.1 in
    let f = first_0 _ _ d.1 in
    record {
      ends = a.0;
      version = eqb-true (version_of j) 1 (but_this _ _ b.0);
      devices = not_this _ _ c.0;
      fits = ltb-false largest (length (outcome_of j)) (not_this _ _ d.0);
      room = ltb-false n (length (outcome_of j)) (not_this _ _ f.0);
    }

-- ---- the answer and the room, by the number
module _ (j room : List ℕ) where
  pub refused_so : (m : ℕ) → m ≡ refusal_of j (length room) → (m ≡ 0 → ⊥) → (record { number = m; len = 0 } ≡ converted_of j (length room)) × (room ≡ room_after j room)
  unfolding converted_of room_after pick
  refused_so m e w = rw (← e, ne_eqb m 0 w) (refl, refl)

  pub written_so : refusal_of j (length room) ≡ 0 → (n : ℕ) → n ≡ length (outcome_of j) → (after : List ℕ) → after ≡ sets room 0 (outcome_of j)
      → (record { number = 0; len = n } ≡ converted_of j (length room)) × (after ≡ room_after j room)
  unfolding converted_of room_after pick
  written_so z n e after p = rw z (ap (λ (k : ℕ). record { number = 0; len = k }) e, p)
