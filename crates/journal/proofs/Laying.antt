-- What the proofs of the encoder share: bytes laid over a room one behind another, a number in two halves, fields behind a kind, and the head
-- of each kind. Each law has the direction of the goal that it closes.
use mathlib.Core.Path.{◌≡◌, refl, sym, ap, ◌∙◌}
use mathlib.Core.List.{List, [], ◌∷◌, ◌++◌, append-nil, append_assoc}
use Prim.Native.Nat.{ℕ, zero, suc, ◌+◌, ◌/◌, ◌%◌, ◌≤◌}
use native.Mathlib.Omega.{arith}
use lib.ListN.{length, set, take, length-append}
use lib.Seq.{sets}
use Rattle.words.specs.Bytes.{le_bytes}
use Rattle.words.proofs.Numbers.{length_le_bytes}
use Rattle.words.proofs.Rooms.{sets-append}
use Rattle.journal.specs.Layout.{device_bytes, widths, sum, kind_of, fields_of}
use Rattle.journal.specs.Writing.{laid, head_of, bytes_of, header_for}
use Rattle.journal.specs.declared.records.Record.{Record}
use Rattle.journal.specs.declared.records.Record.TheVariants.{Event, Interrupt, Write, Seed, Read, BlockingRead}

-- bytes, and others behind them
pub then : (a b c : List ℕ) (at m : ℕ) (s t : List ℕ) → b ≡ sets a at s → m ≡ at + length s → c ≡ sets b m t → c ≡ sets a at (s ++ t)
then a b c at m s t p e q = q ∙ rw (p, e) (sets-append a at s t)

-- ---- a number's lowest bytes
pub lowest : (n m x : ℕ) → n ≤ m → take n (le_bytes m x) ≡ le_bytes n x
unfolding le_bytes
lowest zero m x h = refl
lowest (suc n) zero x h = absurd (omega arith)
lowest (suc n) (suc m) x h = ap (λ (l : List ℕ). x % 256 ∷ l) (lowest n m (x / 256) (omega arith))

-- ---- a kind, and fields behind it one by one
laid-size : (ws fs : List ℕ) → length ws ≡ length fs → length (laid ws fs) ≡ sum ws
unfolding laid sum
laid-size [] [] h = refl
laid-size [] (f ∷ fs) h = absurd (omega (arith, h))
laid-size (w ∷ ws) [] h = absurd (omega (arith, h))
laid-size (w ∷ ws) (f ∷ fs) h = rw (length-append (le_bytes w f) (laid ws fs), length_le_bytes w f, laid-size ws fs (omega (arith, h)))

laid_more : (ws fs : List ℕ) (w f : ℕ) → length ws ≡ length fs → laid ws fs ++ le_bytes w f ≡ laid (ws ++ (w ∷ [])) (fs ++ (f ∷ []))
unfolding laid
laid_more [] [] w f h = sym (append-nil (le_bytes w f))
laid_more [] (x ∷ fs) w f h = absurd (omega (arith, h))
laid_more (u ∷ ws) [] w f h = absurd (omega (arith, h))
laid_more (u ∷ ws) (x ∷ fs) w f h = append_assoc (le_bytes u x) (laid ws fs) (le_bytes w f) ∙ ap (λ (l : List ℕ). le_bytes u x ++ l) (laid_more ws fs w f (omega (arith, h)))

pub first_field : (a b : List ℕ) (at kind w f : ℕ) → b ≡ sets (set a at kind) (at + 1) (le_bytes w f) → b ≡ sets a at (kind ∷ laid (w ∷ []) (f ∷ []))
unfolding laid
first_field a b at kind w f p = let e : at + 1 ≡ suc at = omega arith in rw (append-nil (le_bytes w f)) (rw e at p)

module _ (a b c : List ℕ) (at m kind : ℕ) (ws fs : List ℕ) (w f : ℕ) where
  pub next_field : length ws ≡ length fs → b ≡ sets a at (kind ∷ laid ws fs) → m ≡ at + suc (sum ws) → c ≡ sets b m (le_bytes w f)
      → c ≡ sets a at (kind ∷ laid (ws ++ (w ∷ [])) (fs ++ (f ∷ [])))
  next_field h p e q =
      then a b c at m (kind ∷ laid ws fs) (le_bytes w f) p (omega (arith, e, laid-size ws fs h)) q ∙ ap (λ (l : List ℕ). sets a at (kind ∷ l)) (laid_more ws fs w f h)

-- ---- a record's head is these bytes, and so many
pub record Head (v : ℕ) (r : Record) (bytes : List ℕ) (n : ℕ) : Type 0 where
  pub same : head_of v r ≡ bytes
  pub size : length (head_of v r) ≡ n

module _ (v : ℕ) (r : Record) where
  headed : (kind n : ℕ) (ws fs : List ℕ) → head_of v r ≡ kind ∷ laid ws fs → length ws ≡ length fs → suc (sum ws) ≡ n → Head v r (kind ∷ laid ws fs) n
  headed kind n ws fs e h s = record { same = e; size = ap length e ∙ ap suc (laid-size ws fs h) ∙ s }

  pub event_head : (now device stamp value : ℕ) → r ≡ Event now device stamp value
      → Head v r (1 ∷ laid (4 ∷ device_bytes v ∷ 8 ∷ 4 ∷ []) (now ∷ device ∷ stamp ∷ value ∷ [])) (17 + device_bytes v)
  unfolding head_of kind_of fields_of widths sum
  event_head now device stamp value e = headed 1 _ _ _ (rw e refl) refl (omega arith)

  pub interrupt_head : (now number stamp address : ℕ) → r ≡ Interrupt now number stamp address → Head v r (2 ∷ laid (4 ∷ 4 ∷ 8 ∷ 8 ∷ []) (now ∷ number ∷ stamp ∷ address ∷ [])) 25
  unfolding head_of kind_of fields_of widths sum
  interrupt_head now number stamp address e = headed 2 _ _ _ (rw e refl) refl refl

  pub write_head : (now len : ℕ) → r ≡ Write now len → Head v r (3 ∷ laid (4 ∷ 2 ∷ []) (now ∷ len ∷ [])) 7
  unfolding head_of kind_of fields_of widths sum
  write_head now len e = headed 3 _ _ _ (rw e refl) refl refl

  pub seed_head : (now len credit : ℕ) → r ≡ Seed now len credit → Head v r (4 ∷ laid (4 ∷ 2 ∷ 4 ∷ []) (now ∷ len ∷ credit ∷ [])) 11
  unfolding head_of kind_of fields_of widths sum
  seed_head now len credit e = headed 4 _ _ _ (rw e refl) refl refl

  pub read_head : (now len : ℕ) → r ≡ Read now len → Head v r (5 ∷ laid (4 ∷ 2 ∷ []) (now ∷ len ∷ [])) 7
  unfolding head_of kind_of fields_of widths sum
  read_head now len e = headed 5 _ _ _ (rw e refl) refl refl

  pub blocking_head : (now len : ℕ) → r ≡ BlockingRead now len → Head v r (6 ∷ laid (4 ∷ 2 ∷ []) (now ∷ len ∷ [])) 7
  unfolding head_of kind_of fields_of widths sum
  blocking_head now len e = headed 6 _ _ _ (rw e refl) refl refl

  -- laid so, it is laid
  pub head_laid : (a b : List ℕ) (at m : ℕ) (bytes : List ℕ) (n : ℕ) → Head v r bytes n → (b ≡ sets a at bytes) × (m ≡ at + n)
      → (b ≡ sets a at (head_of v r)) × (m ≡ at + length (head_of v r))
  head_laid a b at m bytes n h p = (p.0 ∙ sym (ap (sets a at) h.same), p.1 ∙ sym (ap (λ (k : ℕ). at + k) h.size))

-- so it is a kind, and fields of its widths
pub head_size : (v : ℕ) (r : Record) → length (head_of v r) ≡ suc (sum (widths v (kind_of r)))
unfolding head_of kind_of fields_of widths
head_size v (Event now device stamp value) = ap suc (laid-size _ _ refl)
head_size v (Interrupt now number stamp address) = ap suc (laid-size _ _ refl)
head_size v (Write now len) = ap suc (laid-size _ _ refl)
head_size v (Seed now len credit) = ap suc (laid-size _ _ refl)
head_size v (Read now len) = ap suc (laid-size _ _ refl)
head_size v (BlockingRead now len) = ap suc (laid-size _ _ refl)

-- ---- a whole record, and a header
pub bytes_size : (v : ℕ) (r : Record) (carried : List ℕ) → length (bytes_of v r carried) ≡ length (head_of v r) + length carried
unfolding bytes_of
bytes_size v r carried = length-append (head_of v r) carried

pub header_size : (v : ℕ) (start : List ℕ) → length (header_for v start) ≡ 5 + length start
unfolding header_for
header_size v start = let e = length-append (le_bytes 2 v) start in let f = length_le_bytes 2 v in omega arith

pub header_laid : (a b c : List ℕ) (m v : ℕ) (start : List ℕ) → b ≡ sets (set (set (set a 0 78) 1 75) 2 74) 3 (le_bytes 2 v) → m ≡ 5 → c ≡ sets b m start
    → c ≡ sets a 0 (header_for v start)
unfolding header_for
header_laid a b c m v start p e q = then a b c 0 m (78 ∷ 75 ∷ 74 ∷ le_bytes 2 v) start p (omega (arith, e, length_le_bytes 2 v)) q
