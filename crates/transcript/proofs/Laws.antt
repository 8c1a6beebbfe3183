-- What the proofs of the transcript's lines share.
use mathlib.Core.Path.{◌≡◌, refl, ap, ◌∙◌}
use mathlib.Core.Bool.{Bool, true, false}
use mathlib.Core.List.{List, [], ◌∷◌, ◌++◌}
use Prim.Native.Nat.{ℕ, zero, suc, ◌+◌, ◌-◌, ◌*◌, ◌/◌, ◌%◌, ◌≤◌, ◌<◌}
use native.Mathlib.Nat.{add-zero, zero-add}
use native.Mathlib.Omega.{arith}
use borrow.Author.Tests.{ltb-true, ltb-false, lt-ltb, le-ltb, le-leb, lt-leb}
use lib.ListN.{length, set, drop, length-append, length-drop}
use lib.Seq.{sets, sets-eq, length-sets}
use lib.Dec.{T, ltb, leb, leb→le}
use Rattle.transcript.specs.Text.{Put, digits, word_of, glyph_of, hex_of, tail_of}
use Rattle.transcript.specs.Lines.{Written, line_of, at_start, text_in, longest_line, longest_end, end_of, end_in}
use Rattle.ledger.specs.Choice.{pick}
use Rattle.ledger.specs.declared.Answer.{Answer}
use Rattle.ledger.proofs.Picks.{pick_both, pick_by}

impossible : 0 < 0 → ⊥
impossible h = omega arith

-- one text after another
sets_more : (s t l : List ℕ) (i : ℕ) → sets (sets l i s) (i + length s) t ≡ sets l i (s ++ t)
sets_more [] t l i = ap (λ (k : ℕ). sets l k t) (add-zero i)
sets_more (x ∷ s) t l i = let e : i + suc (length s) ≡ suc i + length s = omega arith in rw e (sets_more s t (set l i x) (suc i))

module _ (a b c : List ℕ) (at m n : ℕ) (s t : List ℕ) where
  pub then : Put a b at s m → Put b c m t n → Put a c at (s ++ t) n
  then p q =
      record {
        place = let e = length-append s t in let f = p.place in let g = q.place in omega arith;
        stored = q.stored ∙ rw (p.stored, p.place) (sets_more s t a at);
      }

pub none : (a : List ℕ) (at : ℕ) → Put a a at [] at
none a at = record { place = omega arith; stored = refl }

pub one : (a : List ℕ) (at x : ℕ) → Put a (set a at x) at (x ∷ []) (at + 1)
one a at x = record { place = refl; stored = refl }

-- at the start of a room
pub start : (a b t : List ℕ) (n : ℕ) → length t ≤ length a → Put a b 0 t n → b ≡ t ++ drop (length t) a
start a b t n h p = p.stored ∙ sets-eq t a 0 (omega arith) ∙ ap (λ (k : ℕ). t ++ drop k a) (zero-add (length t))

pub same_size : (a b t : List ℕ) (at n : ℕ) → Put a b at t n → length b ≡ length a
same_size a b t at n p = ap length p.stored ∙ length-sets a at t

-- decimal digits
pub short : (k n : ℕ) → length (digits k n) ≤ k
unfolding digits
short zero n = omega arith
short (suc k) n =
    let h = short k (n / 10) in pick_both (λ (s : List ℕ). length s ≤ suc k) (ltb n 10) (omega arith) (rw length-append (omega arith))

pub digits_last : (m n : ℕ) → 0 < m → n < 10 → digits m n ≡ (48 + n) ∷ []
unfolding digits pick
digits_last zero n h k = elim (impossible h) as (λ _. [] ≡ (48 + n) ∷ []) [ ]
digits_last (suc m) n h k = rw lt-ltb

pub digits_more : (m n : ℕ) → 0 < m → 10 ≤ n → digits m n ≡ digits (m - 1) (n / 10) ++ ((48 + n % 10) ∷ [])
unfolding digits pick
digits_more zero n h k = elim (impossible h) as (λ _. [] ≡ digits (0 - 1) (n / 10) ++ ((48 + n % 10) ∷ [])) [ ]
digits_more (suc m) n h k = let e : suc m - 1 ≡ m = omega arith in rw (le-ltb, e)

-- hexadecimal digits: a letter is 39 above where the digits would go on
pub glyph_sum : (d : ℕ) → d < 16 → 48 + d + 39 * ((d + 6) / 16) ≡ glyph_of d
unfolding glyph_of
glyph_sum d h =
    pick_by (λ (g : ℕ). 48 + d + 39 * ((d + 6) / 16) ≡ g) (ltb d 10)
    (λ e. omega (arith, ltb-true))
    (λ e. omega (arith, ltb-false))

pub length_hex : (bytes : List ℕ) → length (hex_of bytes) ≡ 2 * length bytes
unfolding hex_of
length_hex [] = refl
length_hex (b ∷ bytes) = let h = length_hex bytes in omega arith

-- a tail
pub tail_none : (bytes : List ℕ) → length bytes ≡ 0 → tail_of bytes ≡ []
unfolding tail_of
tail_none [] h = refl
tail_none (b ∷ bytes) h = let no : ⊥ = omega arith in elim no as (λ _. 32 ∷ hex_of (b ∷ bytes) ≡ []) [ ]

pub tail_some : (bytes : List ℕ) → (length bytes ≡ 0 → ⊥) → tail_of bytes ≡ (32 ∷ []) ++ hex_of bytes
unfolding tail_of
tail_some [] h = elim (h refl) as (λ _. [] ≡ (32 ∷ []) ++ hex_of []) [ ]
tail_some (b ∷ bytes) h = refl

pub short_tail : (bytes : List ℕ) → length (tail_of bytes) ≤ 1 + 2 * length bytes
unfolding tail_of
short_tail [] = omega arith
short_tail (b ∷ bytes) = let e = length_hex (b ∷ bytes) in omega arith

-- a text in a room that holds the longest of its kind, and one in a shorter room
pub fits : (most : ℕ) (room b t : List ℕ) (n : ℕ) → most ≤ length room → length t ≤ most → Put room b 0 t n → (record { count = n; room = b }) ≡ text_in most room t
unfolding pick at_start
fits most room b t n h k p =
    let e : n ≡ length t = let q = p.place in omega arith in
    let s = start room b t n (omega arith) p in
    rw le-leb (cc)

pub refuses : (most : ℕ) (room t : List ℕ) → length room < most → (record { count = 0; room = room }) ≡ text_in most room t
unfolding pick
refuses most room t h = rw lt-leb

-- what was written lies in the room, and the room has its length
pick_in : (b : Bool) (most : ℕ) (room t : List ℕ) → (T b → length t ≤ length room)
    → let w : Written = pick b (at_start room t) (record { count = 0; room = room }) in (w.count ≤ length room) × (length w.room ≡ length room)
unfolding pick at_start
pick_in true most room t h = let k = h tt in (k, simp (length-append, length-drop) (omega arith))
pick_in false most room t h = (omega arith, refl)

pub in_room : (most : ℕ) (room b t : List ℕ) (n : ℕ) → length t ≤ most → (record { count = n; room = b }) ≡ text_in most room t → (n ≤ length room) × (length b ≡ length room)
in_room most room b t n k h =
    let p : n ≡ (text_in most room t).count = ap (λ (w : Written). w.count) h in
    let q : b ≡ (text_in most room t).room = ap (λ (w : Written). w.room) h in
    rw (p, q) (pick_in (leb most (length room)) most room t (λ x. let l = leb→le most (length room) x in omega arith))

-- no line is longer than what is asked of its room
pub longest : (a : Answer) (input blocking : ℕ) (bytes : List ℕ) → length (line_of a input blocking bytes) ≤ longest_line (length bytes)
unfolding line_of word_of
longest a input blocking bytes =
    let e1 = short 10 a.number in
    let e2 = short 10 a.delivered in
    let e3 = short 10 input in
    let e4 = short 10 blocking in
    let e5 = short 10 a.blocks in
    let e6 = short 10 a.compressions in
    let e7 = short 10 a.added in
    let e8 = short_tail bytes in
    simp length-append (omega arith)

pub longest_end_lem : (n : ℕ) → length (end_of n) ≤ longest_end
unfolding end_of
longest_end_lem n = let e = short 10 n in simp length-append (omega arith)

pub end_is_in : (room b : List ℕ) (k n : ℕ) → (record { count = n; room = b }) ≡ end_in room k → (n ≤ length room) × (length b ≡ length room)
unfolding end_in
end_is_in room b k n h = in_room longest_end room b _ n (longest_end_lem k) h

pub end_in_room : (room b : List ℕ) (k n : ℕ) → (record { count = n; room = b }) ≡ end_in room k → n ≤ length b
end_in_room room b k n h =
    let w = end_is_in room b k n h in
    omega (arith, w.0, w.1)
