-- Demand 3 for journals: two journals whose records have the same kinds and the same public fields, and which end with the same number, have
-- one transcript but for the hex.
use mathlib.Core.Path.{◌≡◌, refl, sym, ap, ◌∙◌}
use mathlib.Core.List.{List, [], ◌∷◌, ◌++◌, map, append_assoc, head-eq_of_cons-eq, tail-eq_of_cons-eq}
use Prim.Native.Nat.{ℕ, suc, ◌≤◌}
use native.Mathlib.Omega.{arith}
use borrow.Author.Tests.{ne_eqb}
use lib.ListN.{length, replicate}
use Rattle.ledger.specs.Choice.{pick}
use Rattle.journal.specs.Header.{header_of, start_of}
use Rattle.journal.specs.Walking.{ending_of}
use Rattle.journal.proofs.Laws.{start_48}
use Rattle.transcript.specs.Text.{decimal_of, word_of, hex_of, tail_of}
use Rattle.transcript.specs.Lines.{line_of, end_of}
use Rattle.transcript.proofs.Laws.{length_hex}
use Rattle.transcript.proofs.Digits.{Digits, no_digit, digit, decimal-digits, hex_digits}
use Rattle.keeper.specs.Record.{Outcome, fresh}
use Rattle.keeper.specs.Calls.{Call, public}
use Rattle.keeper.specs.Narrative.{told}
use Rattle.keeper.specs.Demands.{shown, Alike, outcomes}
use Rattle.keeper.specs.declared.Keeper.{Keeper}
use Rattle.ledger.specs.Machine.{Shown}
use Rattle.ledger.specs.declared.Answer.{Answer}
use Rattle.keeper.proofs.Refusals.{delivered}
use Rattle.keeper.proofs.Blind.{demand_3}
use Rattle.replay.specs.Running.{line_for}
use Rattle.replay.specs.Whole.{calls_of, outcomes_of, lines_of, transcript_of, spaces_left, blot, blotted_from, blotted}

-- ---- a line with its hex blotted out
same_left : (n b : ℕ) → 48 ≤ b → spaces_left n b ≡ n
unfolding spaces_left pick
same_left n b h = rw (ne_eqb b 10 (λ e. omega arith), ne_eqb b 32 (λ e. omega arith))

-- before the hex digits stay; in the hex they are blotted
digits_stay : (n : ℕ) (s t : List ℕ) → Digits s → blotted_from (suc n) (s ++ t) ≡ s ++ blotted_from (suc n) t
unfolding blotted_from blot
digits_stay n [] t no_digit = refl
digits_stay n (b ∷ s) t (digit h p) = rw (same_left (suc n) b h) (ap (λ (l : List ℕ). b ∷ l) (digits_stay n s t p))

digits_go : (s t : List ℕ) → Digits s → blotted_from 0 (s ++ t) ≡ replicate (length s) 42 ++ blotted_from 0 t
unfolding blotted_from blot
digits_go [] t no_digit = refl
digits_go (b ∷ s) t (digit h p) = rw (same_left 0 b h) (ap (λ (l : List ℕ). 42 ∷ l) (digits_go s t p))

word_stays : (n m x : ℕ) (t : List ℕ) → spaces_left (suc n) 32 ≡ suc m → blotted_from (suc n) (word_of x ++ t) ≡ word_of x ++ blotted_from (suc m) t
unfolding word_of blotted_from blot
word_stays n m x t e =
    ap (blotted_from (suc n)) (append_assoc (decimal_of x) (32 ∷ []) t) ∙ digits_stay n (decimal_of x) (32 ∷ t) (decimal-digits 10 x)
    ∙ rw e (sym (append_assoc (decimal_of x) (32 ∷ []) _))

tail_goes : (bytes t : List ℕ) → blotted_from 1 (tail_of bytes ++ (10 ∷ t)) ≡ replicate (length (tail_of bytes)) 42 ++ (10 ∷ blotted t)
unfolding tail_of blotted_from blot spaces_left pick
tail_goes [] t = refl
tail_goes (b ∷ bytes) t = ap (λ (l : List ℕ). 42 ∷ l) (digits_go (hex_of (b ∷ bytes)) (10 ∷ t) (hex_digits (b ∷ bytes)))

-- a line's seven numbers, so many blots, a newline, and what follows it
abbrev blotted_line : Answer → ℕ → ℕ → ℕ → List ℕ → List ℕ
blotted_line a input blocking blots t =
    word_of a.number ++ (word_of a.delivered ++ (word_of input ++ (word_of blocking ++ (word_of a.blocks
    ++ (word_of a.compressions ++ (decimal_of a.added ++ (replicate blots 42 ++ (10 ∷ t))))))))

line-blotted : (a : Answer) (input blocking : ℕ) (bytes t : List ℕ)
    → blotted (line_of a input blocking bytes ++ t) ≡ blotted_line a input blocking (length (tail_of bytes)) (blotted t)
unfolding line_of spaces_left pick
line-blotted a input blocking bytes t =
    simp append_assoc
    (word_stays 6 5 a.number _ refl ∙ ap (λ (l : List ℕ). word_of a.number ++ l)
    (word_stays 5 4 a.delivered _ refl ∙ ap (λ (l : List ℕ). word_of a.delivered ++ l)
    (word_stays 4 3 input _ refl ∙ ap (λ (l : List ℕ). word_of input ++ l)
    (word_stays 3 2 blocking _ refl ∙ ap (λ (l : List ℕ). word_of blocking ++ l)
    (word_stays 2 1 a.blocks _ refl ∙ ap (λ (l : List ℕ). word_of a.blocks ++ l)
    (word_stays 1 0 a.compressions _ refl ∙ ap (λ (l : List ℕ). word_of a.compressions ++ l)
    (digits_stay 0 (decimal_of a.added) _ (decimal-digits 10 a.added) ∙ ap (λ (l : List ℕ). decimal_of a.added ++ l)
    (tail_goes bytes t))))))))

-- ---- two calls that are alike have one line but for the hex: the answer says how many bytes were handed out
tail_long : (s t : List ℕ) → length s ≡ length t → length (tail_of s) ≡ length (tail_of t)
unfolding tail_of
tail_long [] [] e = refl
tail_long [] (b ∷ t) e = absurd (omega arith)
tail_long (b ∷ s) [] e = absurd (omega arith)
tail_long (b ∷ s) (d ∷ t) e = omega (arith, e, length_hex (b ∷ s), length_hex (d ∷ t))

data Counted : List Outcome → Type 0 where
  no_call : Counted []
  a_call : {o : Outcome} {os : List Outcome} → o.answer.delivered ≡ length o.bytes → Counted os → Counted (o ∷ os)

counted : (k : Keeper) (cs : List Call) → Counted (outcomes k cs)
unfolding outcomes
counted k [] = no_call
counted k (c ∷ cs) = a_call (delivered k c) (counted (told k c).keeper cs)

alike_line : (o p : Outcome) (t u : List ℕ) → shown o ≡ shown p → o.answer.delivered ≡ length o.bytes → p.answer.delivered ≡ length p.bytes
    → blotted t ≡ blotted u → blotted (line_for o ++ t) ≡ blotted (line_for p ++ u)
unfolding line_for
alike_line o p t u a h g e =
    let n = tail_long o.bytes p.bytes (sym h ∙ ap (λ (x : Shown). x.answer.delivered) a ∙ g) in
    line-blotted o.answer o.keeper.ledger.input.count o.keeper.ledger.blocking.count o.bytes t
    ∙ (λ i. blotted_line (a i).answer (a i).view.ledger.input.count (a i).view.ledger.blocking.count (n i) (e i))
    ∙ sym (line-blotted p.answer p.keeper.ledger.input.count p.keeper.ledger.blocking.count p.bytes u)

alike_lines : (os ps : List Outcome) (t : List ℕ) → Counted os → Counted ps → Alike os ps → blotted (lines_of os ++ t) ≡ blotted (lines_of ps ++ t)
unfolding lines_of
alike_lines [] [] t c d e = refl
alike_lines [] (p ∷ ps) t c d e = absurd (let z : ◌≡◌ {A = ℕ} 0 1 = cc in omega arith)
alike_lines (o ∷ os) [] t c d e = absurd (let z : ◌≡◌ {A = ℕ} 0 1 = cc in omega arith)
alike_lines (o ∷ os) (p ∷ ps) t (a_call h c) (a_call g d) e =
    ap blotted (append_assoc (line_for o) (lines_of os) t)
    ∙ alike_line o p _ _ (head-eq_of_cons-eq e) h g (alike_lines os ps t c d (tail-eq_of_cons-eq e))
    ∙ ap blotted (sym (append_assoc (line_for p) (lines_of ps) t))

-- DEMAND 3
pub public_journals : (j j' : List ℕ) → (header_of j).number ≡ 0 → (header_of j').number ≡ 0 → map public (calls_of j) ≡ map public (calls_of j') → ending_of j ≡ ending_of j'
    → blotted (transcript_of j) ≡ blotted (transcript_of j')
unfolding transcript_of
public_journals j j' h h' e n =
    alike_lines _ _ _ (counted (fresh (start_of j)) (calls_of j)) (counted (fresh (start_of j')) (calls_of j'))
    (demand_3 (start_of j) (start_of j') (start_48 j h) (start_48 j' h') (calls_of j) (calls_of j') e)
    ∙ ap (λ (m : ℕ). blotted (lines_of (outcomes_of j') ++ end_of m)) n
