-- A double round on a state that is written out: four quarters of its columns, then four of its diagonals.
use Rattle.std.proofs.Common.{◌≡◌, ℕ, List, [], ◌∷◌, length, get_or, set, sym, refl, ap, ◌∙◌}
use Rattle.words.proofs.WrittenOut.{gets_all}
use Rattle.chacha.specs.declared.rounds.Four.{Four}
use Rattle.chacha.specs.Chacha.{line, quarter_round, quarter, inner_block}

-- four words at their places
abbrev laid : ℕ → ℕ → ℕ → ℕ → Four → List ℕ → List ℕ
laid x y z w q s = set (set (set (set s x q.a) y q.b) z q.c) w q.d

-- the quarter round of a state is the one of four words
module _ (x0 x1 x2 x3 x4 x5 x6 x7 x8 x9 x10 x11 x12 x13 x14 x15 : ℕ) where
  abbrev state : List ℕ
  state = x0 ∷ x1 ∷ x2 ∷ x3 ∷ x4 ∷ x5 ∷ x6 ∷ x7 ∷ x8 ∷ x9 ∷ x10 ∷ x11 ∷ x12 ∷ x13 ∷ x14 ∷ x15 ∷ []

  abbrev Quartered : ℕ → ℕ → ℕ → ℕ → Type 0
  Quartered x y z w = quarter_round x y z w state ≡ laid x y z w (quarter (get_or state x 0) (get_or state y 0) (get_or state z 0) (get_or state w 0)) state

  column_0 : Quartered 0 4 8 12
  unfolding quarter quarter_round line
  column_0 = refl

  column_1 : Quartered 1 5 9 13
  unfolding quarter quarter_round line
  column_1 = refl

  column_2 : Quartered 2 6 10 14
  unfolding quarter quarter_round line
  column_2 = refl

  column_3 : Quartered 3 7 11 15
  unfolding quarter quarter_round line
  column_3 = refl

  diagonal_0 : Quartered 0 5 10 15
  unfolding quarter quarter_round line
  diagonal_0 = refl

  diagonal_1 : Quartered 1 6 11 12
  unfolding quarter quarter_round line
  diagonal_1 = refl

  diagonal_2 : Quartered 2 7 8 13
  unfolding quarter quarter_round line
  diagonal_2 = refl

  diagonal_3 : Quartered 3 4 9 14
  unfolding quarter quarter_round line
  diagonal_3 = refl

-- its eight quarters, of words by name
named : (x0 x1 x2 x3 x4 x5 x6 x7 x8 x9 x10 x11 x12 x13 x14 x15 : ℕ) (p q r t u v w x : Four)
    → p ≡ quarter x0 x4 x8 x12 → q ≡ quarter x1 x5 x9 x13
    → r ≡ quarter x2 x6 x10 x14 → t ≡ quarter x3 x7 x11 x15
    → u ≡ quarter p.a q.b r.c t.d → v ≡ quarter q.a r.b t.c p.d
    → w ≡ quarter r.a t.b p.c q.d → x ≡ quarter t.a p.b q.c r.d
    → u.a ∷ v.a ∷ w.a ∷ x.a ∷ x.b ∷ u.b ∷ v.b ∷ w.b ∷ w.c ∷ x.c ∷ u.c ∷ v.c ∷ v.d ∷ w.d ∷ x.d ∷ u.d ∷ []
    ≡ inner_block (x0 ∷ x1 ∷ x2 ∷ x3 ∷ x4 ∷ x5 ∷ x6 ∷ x7 ∷ x8 ∷ x9 ∷ x10 ∷ x11 ∷ x12 ∷ x13 ∷ x14 ∷ x15 ∷ [])
unfolding inner_block
named x0 x1 x2 x3 x4 x5 x6 x7 x8 x9 x10 x11 x12 x13 x14 x15 p q r t u v w x ep eq er et eu ev ew ex =
    rw (ex, ew, ev, eu, et, er, eq, ep, column_0, column_1, column_2, column_3, diagonal_0, diagonal_1, diagonal_2, diagonal_3)

-- .. of a state
pub double_round : (s : List ℕ) (p q r t u v w x : Four) → length s ≡ 16
    → p ≡ quarter (get_or s 0 0) (get_or s 4 0) (get_or s 8 0) (get_or s 12 0) → q ≡ quarter (get_or s 1 0) (get_or s 5 0) (get_or s 9 0) (get_or s 13 0)
    → r ≡ quarter (get_or s 2 0) (get_or s 6 0) (get_or s 10 0) (get_or s 14 0) → t ≡ quarter (get_or s 3 0) (get_or s 7 0) (get_or s 11 0) (get_or s 15 0)
    → u ≡ quarter p.a q.b r.c t.d → v ≡ quarter q.a r.b t.c p.d
    → w ≡ quarter r.a t.b p.c q.d → x ≡ quarter t.a p.b q.c r.d
    → u.a ∷ v.a ∷ w.a ∷ x.a ∷ x.b ∷ u.b ∷ v.b ∷ w.b ∷ w.c ∷ x.c ∷ u.c ∷ v.c ∷ v.d ∷ w.d ∷ x.d ∷ u.d ∷ []
    ≡ inner_block s
double_round s p q r t u v w x l ep eq er et eu ev ew ex =
    named _ _ _ _ _ _ _ _ _ _ _ _ _ _ _ _ p q r t u v w x ep eq er et eu ev ew ex ∙ ap inner_block (sym (gets_all 16 0 s l))
