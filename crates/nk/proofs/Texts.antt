-- The texts that the program writes are the transcript in order, each of them once; and which one comes next.
use mathlib.Core.Path.{◌≡◌, refl, sym, ap, subst, ◌∙◌}
use mathlib.Core.Bool.{Bool, true, false}
use mathlib.Core.List.{List, [], ◌∷◌, ◌++◌, flatten, append_assoc, append-nil}
use Prim.Native.Nat.{ℕ, zero, suc, ◌+◌, ◌-◌, ◌≤◌, ◌<◌}
use native.Mathlib.Nat.{add-zero}
use native.Mathlib.Omega.{arith}
use borrow.Author.Tests.{ne_eqb, leb-true, leb-false, le-leb}
use lib.Dec.{leb}
use lib.ListN.{length, take, drop, get_or, length-append, length-drop}
use lib.Seq.{take-append_seam, get_or-drop, drop-drop}
use Rattle.ledger.specs.Choice.{pick}
use Rattle.ledger.specs.Sizes.{start_bytes}
use Rattle.journal.specs.Header.{records_begin, header_of, version_of, start_of}
use Rattle.journal.specs.Found.{Heading}
use Rattle.journal.proofs.GoodHeader.{heading_good}
use Rattle.journal.proofs.Sides.{by_same}
use Rattle.transcript.specs.Lines.{Written, end_of, end_in, at_start, longest_end}
use Rattle.keeper.specs.Record.{fresh}
use Rattle.keeper.specs.declared.Keeper.{Keeper}
use Rattle.ledger.specs.declared.Answer.{Answer}
use Rattle.steps.specs.Promise.{left, leaves_made}
use Rattle.replay.specs.Turns.{turn_of}
use Rattle.replay.specs.Whole.{transcript_of}
use Rattle.replay.proofs.OneTurn.{ahead}
use Rattle.replay.proofs.Begun.{good as header_good, begins, made_fresh}
use Rattle.replay.proofs.Transcribed.{untranscribed}
use Rattle.nk.specs.declared.batches.Batch.{Batch}
use Rattle.nk.specs.Batches.{most_before, Lines, turns_behind, batch_of, batches_from, texts_of, Laid, Next}
use Rattle.nk.proofs.Turning.{rest, next_line, whole}
use Rattle.nk.proofs.Filling.{over, last_turn, full_turn, further_turn}

-- ---- one batch: behind its lines, what is still to be written completes what was; and where there is more, it moves on within the journal
record Behind (v : ℕ) (j : List ℕ) (at : ℕ) (k : Keeper) (text : List ℕ) (l : Lines) : Type 0 where
  all : l.text ++ pick l.more (rest v j l.at l.keeper) [] ≡ text ++ rest v j at k
  onward : l.more ≡ true → (at < l.at) × (l.at ≤ length j)

-- a turn's line behind a text, and then the rest
line-behind : (v : ℕ) (j : List ℕ) (at : ℕ) (k : Keeper) (text : List ℕ)
    → (text ++ (turn_of v j at k).line) ++ pick (turn_of v j at k).more (rest v j (turn_of v j at k).at (turn_of v j at k).keeper) [] ≡ text ++ rest v j at k
line-behind v j at k text = append_assoc text _ _ ∙ ap (λ (l : List ℕ). text ++ l) (sym (next_line v j at k))

behind-over : (v : ℕ) (j : List ℕ) (at : ℕ) (k : Keeper) (text : List ℕ) → Behind v j at k text (over v j at k text)
behind-over v j at k text = record { all = line-behind v j at k text; onward = ahead v j at k }

-- a turn, where the turns from the next position on are known
a_turn : (n : ℕ) (v : ℕ) (j : List ℕ) (at : ℕ) (k : Keeper) (text : List ℕ)
    → ((turn_of v j at k).more ≡ true → Behind v j at k text (turns_behind n v j (turn_of v j at k).at (turn_of v j at k).keeper (text ++ (turn_of v j at k).line)))
    → Behind v j at k text (turns_behind (suc n) v j at k text)
a_turn n v j at k text on = by (turn_of v j at k).more (leb (length (text ++ (turn_of v j at k).line)) most_before) refl refl
  where
    by : (m f : Bool) → (turn_of v j at k).more ≡ m → leb (length (text ++ (turn_of v j at k).line)) most_before ≡ f → Behind v j at k text (turns_behind (suc n) v j at k text)
    by false f e g = rw (last_turn n v j at k text e) (behind-over v j at k text)
    by true false e g = rw (full_turn n v j at k text (leb-false _ most_before g)) (behind-over v j at k text)
    by true true e g = rw (further_turn n v j at k text e (leb-true _ most_before g)) (on e)

behind : (n : ℕ) (v : ℕ) (j : List ℕ) (at : ℕ) (k : Keeper) (text : List ℕ) → length j < at + n → Behind v j at k text (turns_behind (suc n) v j at k text)
unfolding pick
behind zero v j at k text h = a_turn zero v j at k text (λ e. absurd (let a = ahead v j at k e in omega (arith, h, a.0, a.1)))
behind (suc n) v j at k text h =
    a_turn (suc n) v j at k text
    (λ e. let a = ahead v j at k e in
    let b = behind n v j (turn_of v j at k).at (turn_of v j at k).keeper (text ++ (turn_of v j at k).line) (omega (arith, h, a.0)) in
    let l : (text ++ (turn_of v j at k).line) ++ rest v j (turn_of v j at k).at (turn_of v j at k).keeper ≡ text ++ rest v j at k = rw e at (line-behind v j at k text) in
    record { all = b.all ∙ l; onward = λ m. let o = b.onward m in (omega (arith, a.0, o.0), o.1) })

batch : (v : ℕ) (j : List ℕ) (at : ℕ) (k : Keeper) → Behind v j at k [] (batch_of v j at k)
unfolding batch_of
batch v j at k = behind (suc (length j)) v j at k [] (omega arith)

-- ---- all batches
when_all : (b : Bool) (x : List (List ℕ)) (y : List ℕ) → (b ≡ true → flatten x ≡ y) → flatten (pick b x []) ≡ pick b y []
unfolding flatten pick
when_all true x y h = h refl
when_all false x y h = refl

from_on : (n : ℕ) (v : ℕ) (j : List ℕ) (at : ℕ) (k : Keeper) → length j < at + n → flatten (batches_from (suc n) v j at k) ≡ rest v j at k
unfolding batches_from flatten
from_on zero v j at k h =
    let b = batch v j at k in
    ap (λ (l : List ℕ). (batch_of v j at k).text ++ l) (when_all (batch_of v j at k).more _ _ (λ e. absurd (let o = b.onward e in omega (arith, h, o.0, o.1)))) ∙ b.all
from_on (suc n) v j at k h =
    let b = batch v j at k in
    ap (λ (l : List ℕ). (batch_of v j at k).text ++ l) (when_all (batch_of v j at k).more _ _ (λ e. let o = b.onward e in from_on n v j _ _ (omega (arith, h, o.0)))) ∙ b.all

-- a good header, and another
good : (j : List ℕ) → (header_of j).number ≡ 0 → texts_of j ≡ batches_from (suc (length j)) (version_of j) j records_begin (fresh (start_of j))
unfolding texts_of pick
good j h = rw (heading_good j h) refl

bad : (j : List ℕ) → ((header_of j).number ≡ 0 → ⊥) → texts_of j ≡ end_of (header_of j).number ∷ []
unfolding texts_of pick
bad j h = rw (ne_eqb (header_of j).number 0 h)

-- THE TEXTS, one behind another, are the transcript
pub transcript_in_texts : (j : List ℕ) → flatten (texts_of j) ≡ transcript_of j
unfolding flatten
transcript_in_texts j =
    by_same (header_of j).number 0
    (λ h. ap flatten (good j h) ∙ from_on (length j) (version_of j) j records_begin (fresh (start_of j)) (omega arith) ∙ whole j h)
    (λ h. ap flatten (bad j h) ∙ append-nil _ ∙ sym (untranscribed j h))

-- ---- there are no more texts than bytes
fewer : (b : Bool) (x : List (List ℕ)) (m : ℕ) → (b ≡ true → length x ≤ m) → length (pick b x []) ≤ m
unfolding pick
fewer true x m h = h refl
fewer false x m h = omega arith

few_from : (n : ℕ) (v : ℕ) (j : List ℕ) (at : ℕ) (k : Keeper) → length (batches_from n v j at k) ≤ 1 + (length j - at)
unfolding batches_from
few_from zero v j at k = omega arith
few_from (suc n) v j at k =
    let f = fewer (batch_of v j at k).more (batches_from n v j (batch_of v j at k).at (batch_of v j at k).keeper) (length j - at)
    (λ e. let o = (batch v j at k).onward e in omega (arith, o.0, o.1, few_from n v j (batch_of v j at k).at (batch_of v j at k).keeper)) in
    omega (arith, f)

pub few_texts : (j : List ℕ) → length (texts_of j) ≤ 1 + (length j - records_begin)
few_texts j =
    by_same (header_of j).number 0
    (λ h. rw (good j h) (few_from (suc (length j)) (version_of j) j records_begin (fresh (start_of j))))
    (λ h. omega (arith, ap length (bad j h)))

-- ---- the next text
-- the texts from one on
from_this : (j : List ℕ) (done : ℕ) (text : List ℕ) (more : List (List ℕ)) → drop done (texts_of j) ≡ text ∷ more → Next j done text
from_this j done text more e =
    record {
      left = omega (arith, ap length e, length-drop done (texts_of j));
      this = sym (ap (λ (l : List (List ℕ)). get_or l 0 []) e) ∙ get_or-drop done (texts_of j) 0 [] ∙ ap (λ (n : ℕ). get_or (texts_of j) n []) (add-zero done);
    }

-- so many texts were handed over, and those from here on are the ones that are left
pub record Told (j : List ℕ) (done at : ℕ) (k : Keeper) : Type 0 where
  pub turns : ℕ
  pub enough : length j < at + turns
  pub left : drop done (texts_of j) ≡ batches_from (suc turns) (version_of j) j at k

pub told_none : (j : List ℕ) (k k' : Keeper) (a : Answer) (start : List ℕ) (done : ℕ) (h : Heading) → done ≡ 0 → h ≡ header_of j → h.number ≡ 0
    → start ≡ take start_bytes (drop (h.place - start_bytes) j) → left k' a [] ≡ leaves_made k start → Told j done h.place k'
told_none j k k' a start done h d e z es l =
    let g = header_good j k k' a start h e z es l in
    let p = begins j k k' a start h e z es l in
    let made = made_fresh j k k' a start h e z es l in
    record {
      turns = length j;
      enough = omega arith;
      left = ap (λ (m : ℕ). drop m (texts_of j)) d ∙ good j g ∙ (λ i. batches_from (suc (length j)) (version_of j) j (sym p i) (sym made i));
    }

module _ (j : List ℕ) (done at : ℕ) (k : Keeper) (t : Told j done at k) (v : ℕ) (same : v ≡ version_of j) (k' : Keeper) (b : Batch) (room room' : List ℕ)
    (laid-there : Laid (batch_of v j at k) k' b room room') where
  -- the code's version is the journal's
  laid : Laid (batch_of (version_of j) j at k) k' b room room'
  laid = subst (λ (w : ℕ). Laid (batch_of w j at k) k' b room room') same laid-there

  -- this batch's text and those behind it
  these : drop done (texts_of j) ≡ (batch_of (version_of j) j at k).text ∷ pick (batch_of (version_of j) j at k).more (batches_from t.turns (version_of j) j (batch_of (version_of j) j at k).at (batch_of (version_of j) j at k).keeper) []
  unfolding batches_from
  these = t.left

  pub in_room : b.count ≤ length room'
  in_room = omega (arith, laid.count, ap length laid.written, length-append (batch_of (version_of j) j at k).text (drop (length (batch_of (version_of j) j at k).text) room))

  text_is : take b.count room' ≡ (batch_of (version_of j) j at k).text
  text_is =
      ap (λ (n : ℕ). take n room') laid.count ∙ ap (λ (x : List ℕ). take (length (batch_of (version_of j) j at k).text) x) laid.written
      ∙ take-append_seam (batch_of (version_of j) j at k).text _

  pub next_text : Next j done (take b.count room')
  next_text = rw text_is (from_this j done _ _ these)

  pub goes_on : b.more ≡ true → (at < b.at) × (b.at ≤ length j)
  goes_on e = let o = (batch (version_of j) j at k).onward (sym laid.more ∙ e) in let p = laid.at in (omega (arith, o.0), omega (arith, o.1))

  pub told_more : b.more ≡ true → Told j (done + 1) b.at k'
  unfolding batches_from pick
  told_more e = by t.turns t.enough t.left
    where
      by : (n : ℕ) → length j < at + n → drop done (texts_of j) ≡ batches_from (suc n) (version_of j) j at k → Told j (done + 1) b.at k'
      by zero p q = absurd (let o = goes_on e in omega (arith, p, o.0, o.1))
      by (suc n) p q =
          let o = goes_on e in
          let m : (batch_of (version_of j) j at k).more ≡ true = sym laid.more ∙ e in
          let tail : drop (done + 1) (texts_of j) ≡ pick (batch_of (version_of j) j at k).more (batches_from (suc n) (version_of j) j (batch_of (version_of j) j at k).at (batch_of (version_of j) j at k).keeper) [] =
          sym (drop-drop 1 done (texts_of j)) ∙ ap (drop 1) q in
          record {
            turns = n;
            enough = omega (arith, p, o.0);
            left = rw m at tail ∙ (λ i. batches_from (suc n) (version_of j) j (sym laid.at i) (sym laid.keeper i));
          }

  -- where there is no more, this was the last
  pub told_all : b.more ≡ false → done + 1 ≡ length (texts_of j)
  unfolding pick
  told_all e =
      let m : (batch_of (version_of j) j at k).more ≡ false = sym laid.more ∙ e in
      let one : drop done (texts_of j) ≡ (batch_of (version_of j) j at k).text ∷ [] = rw m at these in
      omega (arith, ap length one, length-drop done (texts_of j))

-- ---- a journal without records has one text
-- a last line that fitted its room
end_of_room : (room b : List ℕ) (n number : ℕ) → longest_end ≤ length room → ◌≡◌ {A = Written} (record { count = n; room = b }) (end_in room number) → take n b ≡ end_of number
unfolding end_in at_start pick
end_of_room room b n number h e =
    let w : ◌≡◌ {A = Written} (record { count = n; room = b }) (at_start room (end_of number)) = rw (le-leb longest_end (length room) h) at e in
    ap (λ (x : Written). take x.count x.room) w ∙ take-append_seam (end_of number) _

module _ (j : List ℕ) (done number : ℕ) (d : done ≡ 0) (e : number ≡ (header_of j).number) (h : number ≡ 0 → ⊥) where
  one_text : drop done (texts_of j) ≡ end_of number ∷ []
  one_text = ap (λ (m : ℕ). drop m (texts_of j)) d ∙ bad j (λ z. h (e ∙ z)) ∙ ap (λ (m : ℕ). end_of m ∷ []) (sym e)

  pub only_text : (room b : List ℕ) (n : ℕ) → longest_end ≤ length room → ◌≡◌ {A = Written} (record { count = n; room = b }) (end_in room number) → Next j done (take n b)
  only_text room b n f w = rw (end_of_room room b n number f w) (from_this j done _ _ one_text)

  pub only_one : done + 1 ≡ length (texts_of j)
  only_one = omega (arith, ap length one_text, length-drop done (texts_of j))
