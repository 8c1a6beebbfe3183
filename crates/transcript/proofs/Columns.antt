-- What a reader reads in a line's text is what was written: its seven numbers, each below 10^10, whatever the bytes behind them; and a newline
-- ends each line.
use mathlib.Core.Path.{◌≡◌, refl, ap, ◌∙◌}
use mathlib.Core.List.{List, [], ◌∷◌, ◌++◌, foldl-append, append_assoc, append-nil}
use Prim.Native.Nat.{ℕ, zero, suc, ◌+◌, ◌-◌, ◌*◌, ◌/◌, ◌%◌, ◌^◌, ◌≤◌, ◌<◌}
use native.Mathlib.Omega.{arith}
use borrow.Author.Tests.{eq-eqb, ne_eqb}
use lib.Dec.{ltb}
use lib.ListN.{length, take, length-append}
use lib.Seq.{take_at}
use Rattle.ledger.specs.Choice.{pick}
use Rattle.ledger.specs.declared.Answer.{Answer}
use Rattle.ledger.proofs.Picks.{pick_by}
use Rattle.transcript.specs.Text.{digits, decimal_of, word_of, hex_of, tail_of}
use Rattle.transcript.specs.Lines.{numbers_of, line_of, end_of}
use Rattle.transcript.proofs.Digits.{Digits, no_digit, digit, decimal-digits, hex_digits}
use Rattle.transcript.specs.Columns.{in_front, parts, number_in, row_in, lines_in}

-- ---- a number
-- a digit behind what was read
one_more : (text : List ℕ) (d : ℕ) → number_in (text ++ ((48 + d) ∷ [])) ≡ number_in text * 10 + d
unfolding number_in
one_more text d = foldl-append _ 0 text ((48 + d) ∷ []) ∙ omega arith

-- with k digits, where it has no more
digits-read : (k n : ℕ) → n < 10 ^ k → number_in (digits k n) ≡ n
unfolding digits number_in
digits-read zero n h = omega arith
digits-read (suc k) n h =
    pick_by (λ (text : List ℕ). number_in text ≡ n) (ltb n 10)
    (λ e. omega arith)
    (λ e. omega (arith, one_more (digits k (n / 10)) (n % 10), digits-read k (n / 10) (omega arith)))

-- WHAT WAS WRITTEN IS READ
pub read_back : (n : ℕ) → n < 10 ^ 10 → number_in (decimal_of n) ≡ n
read_back n h = digits-read 10 n h

-- ---- parts of a text
-- a text in which no byte is `sep`
data Without (sep : ℕ) : List ℕ → Type 0 where
  nothing : Without sep []
  a_byte : {b : ℕ} {text : List ℕ} → (b ≡ sep → ⊥) → Without sep text → Without sep (b ∷ text)

module _ (sep : ℕ) where
  -- it is one part
  one_part : (s : List ℕ) → Without sep s → parts sep s ≡ s ∷ []
  unfolding parts in_front pick
  one_part [] nothing = refl
  one_part (b ∷ s) (a_byte n w) = rw (ne_eqb b sep n, one_part s w)

  -- and ends where `sep` stands
  parted : (s t : List ℕ) → Without sep s → parts sep (s ++ (sep ∷ t)) ≡ s ∷ parts sep t
  unfolding parts in_front pick
  parted [] t nothing = rw (eq-eqb sep sep refl)
  parted (b ∷ s) t (a_byte n w) = rw (ne_eqb b sep n, parted s t w)

  -- or at the end of the text, behind which there is nothing
  ended : (s : List ℕ) → Without sep s → parts sep (s ++ (sep ∷ [])) ≡ s ∷ [] ∷ []
  unfolding parts
  ended s w = parted s [] w

  -- two such texts are one
  joined : (s t : List ℕ) → Without sep s → Without sep t → Without sep (s ++ t)
  joined [] t nothing q = q
  joined (b ∷ s) t (a_byte n p) q = a_byte n (joined s t p q)

-- ---- digits are neither spaces nor newlines
above : (sep b : ℕ) → sep < 48 → 48 ≤ b → b ≡ sep → ⊥
above sep b low h e = omega arith

digits_without : (sep : ℕ) (text : List ℕ) → sep < 48 → Digits text → Without sep text
digits_without sep [] low no_digit = nothing
digits_without sep (b ∷ text) low (digit h p) = a_byte (above sep _ low h) (digits_without sep text low p)

decimal_without : (sep n : ℕ) → sep < 48 → Without sep (decimal_of n)
decimal_without sep n low = digits_without sep (decimal_of n) low (decimal-digits 10 n)

-- ---- newlines
-- a line without its newline
abbrev pub unended : Answer → ℕ → ℕ → List ℕ → List ℕ
unended a input blocking bytes = numbers_of a input blocking ++ tail_of bytes

-- it has no other: a space and the letters of `end` are above 10, and digits are too
no_newline : (b : ℕ) → 10 < b → b ≡ 10 → ⊥
no_newline b h e = omega arith

word_without : (n : ℕ) (t : List ℕ) → Without 10 t → Without 10 (word_of n ++ t)
unfolding word_of
word_without n t w = joined 10 (word_of n) t (joined 10 _ _ (decimal_without 10 n (omega arith)) (a_byte (no_newline 32 (omega arith)) nothing)) w

tail_without : (bytes : List ℕ) → Without 10 (tail_of bytes)
unfolding tail_of
tail_without [] = nothing
tail_without (b ∷ bytes) = a_byte (no_newline 32 (omega arith)) (digits_without 10 _ (omega arith) (hex_digits (b ∷ bytes)))

numbers_without : (a : Answer) (input blocking : ℕ) → Without 10 (numbers_of a input blocking)
numbers_without a input blocking =
    word_without _ _ (word_without _ _ (word_without _ _ (word_without _ _ (word_without _ _ (word_without _ _ (decimal_without 10 _ (omega arith)))))))

-- a line ends where its newline stands
pub line_parted : (a : Answer) (input blocking : ℕ) (bytes t : List ℕ)
    → parts 10 (line_of a input blocking bytes ++ t) ≡ unended a input blocking bytes ∷ parts 10 t
unfolding line_of
line_parted a input blocking bytes t =
    let w = joined 10 _ _ (numbers_without a input blocking) (tail_without bytes) in
    ap (parts 10) (simp append_assoc) ∙ parted 10 (unended a input blocking bytes) t w

-- ---- spaces
-- a word ends where its space stands
word_parted : (n : ℕ) (t : List ℕ) → parts 32 (word_of n ++ t) ≡ decimal_of n ∷ parts 32 t
unfolding word_of
word_parted n t = rw append_assoc (parted 32 (decimal_of n) t (decimal_without 32 n (omega arith)))

-- the last number ends where the line does, or where the space before the hex stands
last_parted : (n : ℕ) (bytes : List ℕ) → take 1 (parts 32 (decimal_of n ++ tail_of bytes)) ≡ decimal_of n ∷ []
unfolding tail_of
last_parted n [] = rw (append-nil, one_part 32 (decimal_of n) (decimal_without 32 n (omega arith)))
last_parted n (b ∷ bytes) = rw (parted 32 (decimal_of n) (hex_of (b ∷ bytes)) (decimal_without 32 n (omega arith)))

-- seven numbers of ten digits at most
pub record TenDigits (a : Answer) (input blocking : ℕ) : Type 0 where
  pub number : a.number < 10 ^ 10
  pub delivered : a.delivered < 10 ^ 10
  pub input_count : input < 10 ^ 10
  pub blocking_count : blocking < 10 ^ 10
  pub blocks : a.blocks < 10 ^ 10
  pub compressions : a.compressions < 10 ^ 10
  pub added : a.added < 10 ^ 10

-- A LINE'S SEVEN NUMBERS are read in it, whatever the bytes
pub line_read : (a : Answer) (input blocking : ℕ) (bytes : List ℕ) → TenDigits a input blocking
    → row_in (unended a input blocking bytes) ≡ a.number ∷ a.delivered ∷ input ∷ blocking ∷ a.blocks ∷ a.compressions ∷ a.added ∷ []
unfolding row_in
line_read a input blocking bytes s =
    let n = read_back a.number s.number in
    let d = read_back a.delivered s.delivered in
    let p = read_back input s.input_count in
    let q = read_back blocking s.blocking_count in
    let b = read_back a.blocks s.blocks in
    let c = read_back a.compressions s.compressions in
    let e = read_back a.added s.added in
    simp (append_assoc, word_parted, last_parted) (λ i. n i ∷ d i ∷ p i ∷ q i ∷ b i ∷ c i ∷ e i ∷ [])

-- ---- whole transcripts
-- a text of these lines, then one more, each with its newline
pub record Listed (text : List ℕ) (lines : List (List ℕ)) : Type 0 where
  pub last : List ℕ
  pub is : parts 10 text ≡ lines ++ (last ∷ [] ∷ [])

-- a last line is such a text
end_without : (n : ℕ) → Without 10 (101 ∷ 110 ∷ 100 ∷ 32 ∷ decimal_of n)
end_without n =
    a_byte (no_newline 101 (omega arith)) (a_byte (no_newline 110 (omega arith)) (a_byte (no_newline 100 (omega arith))
    (a_byte (no_newline 32 (omega arith)) (decimal_without 10 n (omega arith)))))

pub end_listed : (n : ℕ) → Listed (end_of n) []
unfolding end_of
end_listed n = record { last = 101 ∷ 110 ∷ 100 ∷ 32 ∷ decimal_of n; is = ended 10 _ (end_without n) }

-- and so is a line before one
pub line_listed : (a : Answer) (input blocking : ℕ) (bytes : List ℕ) {t : List ℕ} {lines : List (List ℕ)} → Listed t lines
    → Listed (line_of a input blocking bytes ++ t) (unended a input blocking bytes ∷ lines)
line_listed a input blocking bytes {t} l =
    record { last = l.last; is = line_parted a input blocking bytes t ∙ ap (λ (r : List (List ℕ)). unended a input blocking bytes ∷ r) l.is }

-- a reader finds all but the last
pub listed : {t : List ℕ} {lines : List (List ℕ)} → Listed t lines → lines_in t ≡ lines
unfolding lines_in
listed {t} {lines} l =
    let two = l.last ∷ [] ∷ [] in
    rw l.is (take_at lines two (length (lines ++ two) - 2) (omega (arith, length-append lines two)))
