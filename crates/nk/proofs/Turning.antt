-- Turns one after another: the next one's line is the start of what is still to be written, and the rest is written from the new position
-- on.
use mathlib.Core.Path.{◌≡◌, refl, sym, ap, ◌∙◌}
use mathlib.Core.Bool.{Bool, true, false}
use mathlib.Core.List.{List, [], ◌++◌}
use Prim.Native.Nat.{ℕ, zero, suc, ◌+◌, ◌≤◌, ◌<◌}
use native.Mathlib.Omega.{arith}
use lib.ListN.{length}
use Rattle.ledger.specs.Choice.{pick}
use Rattle.ledger.specs.Sizes.{longest}
use Rattle.journal.specs.Reading.{read_at}
use Rattle.journal.specs.Header.{records_begin, header_of, version_of, start_of}
use Rattle.journal.specs.Walking.{entry}
use Rattle.journal.specs.Found.{Found, One, Stop, End}
use Rattle.transcript.specs.Lines.{longest_line, longest_end}
use Rattle.transcript.proofs.Laws.{longest as longest-line, longest_end_lem}
use Rattle.keeper.specs.Narrative.{told}
use Rattle.keeper.specs.Record.{fresh}
use Rattle.keeper.specs.declared.Keeper.{Keeper}
use Rattle.replay.specs.Running.{call_of, line_for}
use Rattle.replay.specs.Turns.{after, turn_of}
use Rattle.replay.specs.Whole.{turns_write, transcript_of}
use Rattle.replay.proofs.Handing.{few}
use Rattle.replay.proofs.OneTurn.{ahead}
use Rattle.replay.proofs.Transcribed.{transcribed}

-- ---- one turn
-- the longest line is one with 4,096 bytes
most : (n b : ℕ) → n ≤ longest_line b → b ≤ longest → n ≤ longest_line longest
most n b h k = omega (arith, h, k)

last : (n : ℕ) → n ≤ longest_end → n ≤ longest_line longest
last n h = omega (arith, h)

short_after : (v : ℕ) (j : List ℕ) (at : ℕ) (k : Keeper) (f : Found) → length (after v j at k f).line ≤ longest_line longest
unfolding after line_for
short_after v j at k (One r next) =
    let o = told k (call_of v j (entry at r next)) in
    most _ (length o.bytes) (longest-line o.answer o.keeper.ledger.input.count o.keeper.ledger.blocking.count o.bytes) (few k (call_of v j (entry at r next)))
short_after v j at k (Stop n) = last _ (longest_end_lem n)
short_after v j at k End = last _ (longest_end_lem 0)

pub short : (v : ℕ) (j : List ℕ) (at : ℕ) (k : Keeper) → length (turn_of v j at k).line ≤ longest_line longest
unfolding turn_of
short v j at k = short_after v j at k (read_at v j at)

-- ---- all turns from a position on
-- what they write, on a keeper as it is there. No journal has more turns than bytes, but for the last
unfoldable pub rest : ℕ → List ℕ → ℕ → Keeper → List ℕ
rest v j at k = turns_write (suc (suc (length j))) v j at k

when : (b : Bool) (x y : List ℕ) → (b ≡ true → x ≡ y) → pick b x [] ≡ pick b y []
unfolding pick
when true x y h = h refl
when false x y h = refl

-- a turn more changes nothing where there are turns enough
grow : (f : ℕ) (v : ℕ) (j : List ℕ) (at : ℕ) (k : Keeper) → length j < at + f → turns_write (suc f) v j at k ≡ turns_write (suc (suc f)) v j at k
unfolding turns_write
grow zero v j at k h = ap (λ (l : List ℕ). (turn_of v j at k).line ++ l) (when _ _ _ (λ e. let g = ahead v j at k e in absurd (omega (arith, g.0, g.1, h))))
grow (suc f) v j at k h = ap (λ (l : List ℕ). (turn_of v j at k).line ++ l) (when _ _ _ (λ e. let g = ahead v j at k e in grow f v j _ _ (omega (arith, g.0, h))))

-- the next turn's line, and then the rest
pub next_line : (v : ℕ) (j : List ℕ) (at : ℕ) (k : Keeper) → rest v j at k ≡ (turn_of v j at k).line ++ pick (turn_of v j at k).more (rest v j (turn_of v j at k).at (turn_of v j at k).keeper) []
unfolding rest turns_write
next_line v j at k =
    ap (λ (l : List ℕ). (turn_of v j at k).line ++ l) (when _ _ _ (λ e. let g = ahead v j at k e in grow (length j) v j _ _ (omega (arith, g.0))))

-- behind a good header the rest is the transcript
pub whole : (j : List ℕ) → (header_of j).number ≡ 0 → rest (version_of j) j records_begin (fresh (start_of j)) ≡ transcript_of j
unfolding rest
whole j h = sym (grow (length j) (version_of j) j records_begin (fresh (start_of j)) (omega arith)) ∙ transcribed j h
