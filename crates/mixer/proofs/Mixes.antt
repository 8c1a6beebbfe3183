-- What the proofs of mixing cite: masks, the shape of a pool by its word count, one byte, bytes after bytes.
use mathlib.Core.Path.{◌≡◌, refl, sym, ap, ◌∙◌}
use mathlib.Core.Logic.{◌⊎◌, inl, inr, ⊎_elim}
use mathlib.Core.List.{List, [], ◌∷◌, ◌++◌}
use Prim.Native.Nat.{ℕ, ◌+◌, ◌-◌, ◌%◌, ◌≤◌, ◌<◌}
use native.Mathlib.Nat.{add-zero, mod-lt}
use native.Mathlib.Omega.{arith}
use borrow.Author.Tests.{eq-eqb, ne_eqb}
use lib.Bits.{bit_and, bit_xor, and_mask}
use lib.ListN.{length, get_or, set, length-set}
use lib.Seq.{get_or-set_same}
use Rattle.words.specs.Words.{rotl}
use Rattle.ledger.specs.Choice.{pick}
use Rattle.ledger.specs.Shapes.{Shape}
use Rattle.ledger.specs.Sizes.{input_words, blocking_words}
use Rattle.ledger.specs.Places.{turned}
use Rattle.ledger.specs.declared.Spot.{Spot}
use Rattle.mixer.specs.declared.mixing.Taps.{Taps}
use Rattle.mixer.specs.declared.mixing.Place.{Place}
use Rattle.pool.specs.Mixing.{Pool, twisted, tapped, mixed_words, mix_byte, mix}
use Rattle.mixer.specs.Sizes.{shape_of, Size, InPool, far_taps, TapsOf}
use Rattle.mixer.specs.Mixed.{spot_of, Stands, Mixed}
use Rattle.mixer.proofs.Twist.{twist_xor}

-- a mask is the remainder, at either size
pub masked : (j n : ℕ) → (n ≡ input_words) ⊎ (n ≡ blocking_words) → bit_and j (n - 1) ≡ j % n
masked j n h = ⊎_elim (λ e. rw e (and_mask j 7)) (λ e. rw e (and_mask j 5)) h

-- the shape by a word count has that many words
pub shape_words : (n : ℕ) → Size n → (shape_of n).words ≡ n
unfolding shape_of pick
shape_words n z = ⊎_elim (λ e. rw e) (λ e. rw e) z.one_of

-- a caller's two pools, at a place inside
pub in_input : (s : Spot) → s.at < input_words → s.turn ≤ 31 → InPool input_words s
in_input s h k = record { place = h; turning = k; size = record { few = omega arith; some = omega arith; one_of = inl refl } }

pub in_blocking : (s : Spot) → s.at < blocking_words → s.turn ≤ 31 → InPool blocking_words s
in_blocking s h k = record { place = h; turning = k; size = record { few = omega arith; some = omega arith; one_of = inr refl } }

-- the rotation at position 0, and at another one
pub turned_zero : (at turn : ℕ) → at ≡ 0 → (turn + 14) % 32 ≡ turned at turn
unfolding pick
turned_zero at turn h = rw (eq-eqb at 0 h)

pub turned_other : (at turn : ℕ) → (at ≡ 0 → ⊥) → (turn + 7) % 32 ≡ turned at turn
unfolding pick
turned_other at turn h = rw (ne_eqb at 0 h)

-- ---- one byte
-- the words at a position and at four taps
pub tapped_four : (sh : Shape) (ws : List ℕ) (i a b c d x : ℕ)
    → bit_xor (bit_xor (bit_xor (bit_xor (bit_xor x (get_or ws (i % sh.words) 0)) (get_or ws ((i + a) % sh.words) 0)) (get_or ws ((i + b) % sh.words) 0)) (get_or ws ((i + c) % sh.words) 0)) (get_or ws ((i + d) % sh.words) 0)
    ≡ tapped sh ws i (0 ∷ a ∷ b ∷ c ∷ d ∷ []) x
unfolding tapped
tapped_four sh ws i a b c d x = rw (add-zero i)

-- .. and at the fifth
tapped_five : (sh : Shape) (ws : List ℕ) (i x : ℕ) (t : Taps)
    → bit_xor (tapped sh ws i (0 ∷ far_taps t) x) (get_or ws ((i + 1) % sh.words) 0) ≡ tapped sh ws i (0 ∷ t.a ∷ t.b ∷ t.c ∷ t.d ∷ 1 ∷ []) x
unfolding tapped
tapped_five sh ws i x t = refl

-- the position that a position falls from
one_up : (n at : ℕ) → Size n → at < n → ((at + (n - 1)) % n + 1) % n ≡ at
one_up n at z h = ⊎_elim (λ e. one_up_128 n at e h) (λ e. one_up_32 n at e h) z.one_of
  where
    one_up_128 : (n at : ℕ) → n ≡ 128 → at < n → ((at + (n - 1)) % n + 1) % n ≡ at
    one_up_128 n at e h = rw e (omega arith)

    one_up_32 : (n at : ℕ) → n ≡ 32 → at < n → ((at + (n - 1)) % n + 1) % n ≡ at
    one_up_32 n at e h = rw e (omega arith)

-- one byte is mixed in: w is blended of all words but the one written last, u and v are the two twists
pub put_byte : (ws : List ℕ) (t : Taps) (p r : Place) (b x w u v : ℕ) → Stands ws p → TapsOf (length ws) t
    → r.at ≡ (p.at + (length ws - 1)) % length ws → r.turn ≡ turned r.at p.turn → r.last ≡ bit_xor u v
    → x ≡ rotl (p.turn % 32) b → w ≡ tapped (shape_of (length ws)) ws r.at (0 ∷ far_taps t) x → u ≡ twisted w → v ≡ twisted p.last
    → Mixed ws (spot_of p) (b ∷ []) (set ws r.at r.last) r
unfolding mix mixed_words
put_byte ws t p r b x w u v st ts ea et el ex ew eu ev =
    let n : ℕ = length ws in
    let sh = shape_of n in
    let z = st.inside.size in
    let sw = shape_words n z in
    let m : p.turn % 32 ≡ p.turn = omega (arith, st.inside.turning) in
    let below : r.at < n = rw ea (mod-lt (p.at + (n - 1)) z.some) in
    let up : (r.at + 1) % sh.words ≡ p.at = rw (sw, ea) (one_up n p.at z st.inside.place) in
    let near : p.last ≡ get_or ws ((r.at + 1) % sh.words) 0 = st.last_is ∙ ap (λ (j : ℕ). get_or ws j 0) (sym up) in
    let all : bit_xor w p.last ≡ tapped sh ws r.at (0 ∷ sh.taps) (rotl p.turn b) =
    rw (ew, near, ex, m) (tapped_five sh ws r.at (rotl p.turn b) t ∙ ap (λ (l : List ℕ). tapped sh ws r.at (0 ∷ l) (rotl p.turn b)) ts.these) in
    let e : r.last ≡ twisted (tapped sh ws r.at (0 ∷ sh.taps) (rotl p.turn b)) =
    el ∙ (rw (eu, ev) (twist_xor w p.last)) ∙ ap twisted all in
    let l : length (set ws r.at r.last) ≡ n = length-set ws r.at r.last in
    record {
      stands =
          record {
            inside = rw l (record { place = below; turning = omega (arith, et); size = z });
            last_is = sym (get_or-set_same ws r.at r.last 0 below);
          };
      as_many = l;
      pool = rw (et, e, ea, sw);
    }

-- ---- bytes after bytes
-- nothing is mixed in yet
pub mixed_none : (ws : List ℕ) (p : Place) → Stands ws p → Mixed ws (spot_of p) [] ws p
unfolding mix
mixed_none ws p h = record { stands = h; as_many = refl; pool = refl }

mix-append : (sh : Shape) (p : Pool) (xs ys : List ℕ) → mix sh p (xs ++ ys) ≡ mix sh (mix sh p xs) ys
unfolding mix
mix-append sh p [] ys = refl
mix-append sh p (x ∷ xs) ys = mix-append sh (mix_byte sh p x) xs ys

-- a pool after some bytes, and then others
pub mix_then : (sh : Shape) (p q r : Pool) (xs ys all : List ℕ) → xs ++ ys ≡ all → q ≡ mix sh p xs → r ≡ mix sh q ys → r ≡ mix sh p all
mix_then sh p q r xs ys all e f g = rw (← e, mix-append sh p xs ys, ← f) g

-- some, and then others
pub mixed_then : (start : List ℕ) (s : Spot) (xs ys all ws vs : List ℕ) (p q : Place) → xs ++ ys ≡ all
    → Mixed start s xs ws p → Mixed ws (spot_of p) ys vs q → Mixed start s all vs q
mixed_then start s xs ys all ws vs p q e f g =
    record {
      stands = g.stands;
      as_many = g.as_many ∙ f.as_many;
      pool = rw (← e, mix-append (shape_of (length start)) (record { words = start; spot = s }) xs ys, ← f.pool) (rw f.as_many at g.pool);
    }

-- the position stays small
pub at-few : {start bytes ws : List ℕ} {s : Spot} {p : Place} → Mixed start s bytes ws p → p.at < input_words
at-few m = omega (arith, m.stands.inside.place, m.stands.inside.size.few)

-- all are mixed in: what a function that began at the spot q and answers r then promises
pub mixed_all : {start bytes all ws : List ℕ} {s q r : Spot} {p : Place} → bytes ≡ all → s ≡ q → r ≡ spot_of p → Mixed start s bytes ws p
    → (◌≡◌ {A = Pool} (record { words = ws; spot = r }) (mix (shape_of (length start)) (record { words = start; spot = q }) all)) × InPool (length start) r
mixed_all eb es er m = (rw (er, ← es, ← eb) m.pool, rw (er, ← m.as_many) m.stands.inside)
