use mathlib.Core.Path.{◌≡◌, refl, sym, ap, ◌∙◌}
use mathlib.Core.List.{List}
use Prim.Native.Nat.{ℕ}
use native.Mathlib.Omega.{arith}
use lib.ListN.{length, get_or}
use Rattle.std.proofs.lemmas.Slice.Eq.{text_from_reads}
use Rattle.lab.specs.Classes.{drill_word, live_word}
use Rattle.lab.proofs.HexWords.{gives_drill, gives_live, gives_none, gives_bytes, hex_not_drill, hex_not_live}
use Rattle.lab.proofs.classes.read_class.Goals as goal
use Rattle.lab.proofs.classes.read_class.Goals.{in_default-via-then-word-lt4, in_default-via-else-word-lt4+then-word-lt5+in-108+in-105+in-118+in_default-1, in_default-via-else-word-lt4+then-word-lt5+in-108+in-105+in_default-1, in_default-via-else-word-lt4+then-word-lt5+in-108+in_default-1, in_default-via-else-word-lt4+then-word-lt5+in_default-1, in_default-via-else-word-lt4+else-word-lt5+then-word-lt6+in-100+in-114+in-105+in-108+in_default-1, in_default-via-else-word-lt4+else-word-lt5+then-word-lt6+in-100+in-114+in-105+in_default-1, in_default-via-else-word-lt4+else-word-lt5+then-word-lt6+in-100+in-114+in_default-1, in_default-via-else-word-lt4+else-word-lt5+then-word-lt6+in-100+in_default-1, in_default-via-else-word-lt4+else-word-lt5+then-word-lt6+in_default-1, in_default-via-else-word-lt4+else-word-lt5+else-word-lt6}

-- the arm of `drill`, and that of `live`
pub returns-in-drill-clause-gives : goal.returns-in-drill-clause-gives
returns-in-drill-clause-gives c =
    let e = text_from_reads c.args.word.now drill_word (omega arith) (omega arith, (omega arith, (omega arith, (omega arith, (omega arith, tt))))) in
    gives_drill _ _ _ _ e (refl, c.lay_one-in-drill.ensures.0)

pub returns-in-live-clause-gives : goal.returns-in-live-clause-gives
returns-in-live-clause-gives c =
    let e = text_from_reads c.args.word.now live_word (omega arith) (omega arith, (omega arith, (omega arith, (omega arith, tt)))) in
    gives_live _ _ _ _ e (refl, c.lay_one.ensures.0)

pub returns-then-is_hex-clause-gives : goal.returns-then-is_hex-clause-gives
returns-then-is_hex-clause-gives c =
    let h = sym c.is_hex.ensures ∙ c.if-is_hex.true in
    gives_bytes _ (hex_not_drill _ h) (hex_not_live _ h) _ _ _ h c.lay_bytes.ensures.0

-- a word that came to the last arm has another length than `drill`, or another letter; and than `live`
pub returns-else-is_hex-clause-gives : goal.returns-else-is_hex-clause-gives
returns-else-is_hex-clause-gives c =
    let not_drill : c.args.word.now ≡ drill_word → ⊥ = λ e.
    let n : length c.args.word.now ≡ 5 = ap length e in
    let b0 : get_or c.args.word.now 0 0 ≡ 100 = ap (λ (w : List ℕ). get_or w 0 0) e in
    let b1 : get_or c.args.word.now 1 0 ≡ 114 = ap (λ (w : List ℕ). get_or w 1 0) e in
    let b2 : get_or c.args.word.now 2 0 ≡ 105 = ap (λ (w : List ℕ). get_or w 2 0) e in
    let b3 : get_or c.args.word.now 3 0 ≡ 108 = ap (λ (w : List ℕ). get_or w 3 0) e in
    let b4 : get_or c.args.word.now 4 0 ≡ 108 = ap (λ (w : List ℕ). get_or w 4 0) e in
    elim c.in_default.branch [
      | in_default-via-then-word-lt4 w ↦ grind arith
      | in_default-via-else-word-lt4+then-word-lt5+in-108+in-105+in-118+in_default-1 w ↦ grind arith
      | in_default-via-else-word-lt4+then-word-lt5+in-108+in-105+in_default-1 w ↦ grind arith
      | in_default-via-else-word-lt4+then-word-lt5+in-108+in_default-1 w ↦ grind arith
      | in_default-via-else-word-lt4+then-word-lt5+in_default-1 w ↦ grind arith
      | in_default-via-else-word-lt4+else-word-lt5+then-word-lt6+in-100+in-114+in-105+in-108+in_default-1 w ↦ grind arith
      | in_default-via-else-word-lt4+else-word-lt5+then-word-lt6+in-100+in-114+in-105+in_default-1 w ↦ grind arith
      | in_default-via-else-word-lt4+else-word-lt5+then-word-lt6+in-100+in-114+in_default-1 w ↦ grind arith
      | in_default-via-else-word-lt4+else-word-lt5+then-word-lt6+in-100+in_default-1 w ↦ grind arith
      | in_default-via-else-word-lt4+else-word-lt5+then-word-lt6+in_default-1 w ↦ grind arith
      | in_default-via-else-word-lt4+else-word-lt5+else-word-lt6 w ↦ grind arith
    ]
    in
    let not_live : c.args.word.now ≡ live_word → ⊥ = λ e.
    let n : length c.args.word.now ≡ 4 = ap length e in
    let b0 : get_or c.args.word.now 0 0 ≡ 108 = ap (λ (w : List ℕ). get_or w 0 0) e in
    let b1 : get_or c.args.word.now 1 0 ≡ 105 = ap (λ (w : List ℕ). get_or w 1 0) e in
    let b2 : get_or c.args.word.now 2 0 ≡ 118 = ap (λ (w : List ℕ). get_or w 2 0) e in
    let b3 : get_or c.args.word.now 3 0 ≡ 101 = ap (λ (w : List ℕ). get_or w 3 0) e in
    elim c.in_default.branch [
      | in_default-via-then-word-lt4 w ↦ grind arith
      | in_default-via-else-word-lt4+then-word-lt5+in-108+in-105+in-118+in_default-1 w ↦ grind arith
      | in_default-via-else-word-lt4+then-word-lt5+in-108+in-105+in_default-1 w ↦ grind arith
      | in_default-via-else-word-lt4+then-word-lt5+in-108+in_default-1 w ↦ grind arith
      | in_default-via-else-word-lt4+then-word-lt5+in_default-1 w ↦ grind arith
      | in_default-via-else-word-lt4+else-word-lt5+then-word-lt6+in-100+in-114+in-105+in-108+in_default-1 w ↦ grind arith
      | in_default-via-else-word-lt4+else-word-lt5+then-word-lt6+in-100+in-114+in-105+in_default-1 w ↦ grind arith
      | in_default-via-else-word-lt4+else-word-lt5+then-word-lt6+in-100+in-114+in_default-1 w ↦ grind arith
      | in_default-via-else-word-lt4+else-word-lt5+then-word-lt6+in-100+in_default-1 w ↦ grind arith
      | in_default-via-else-word-lt4+else-word-lt5+then-word-lt6+in_default-1 w ↦ grind arith
      | in_default-via-else-word-lt4+else-word-lt5+else-word-lt6 w ↦ grind arith
    ]
    in
    gives_none _ not_drill not_live _ (sym c.is_hex.ensures ∙ c.if-is_hex.false)
