-- A room filled by turns: their lines stand one behind another at its start, and are the batch's.
use mathlib.Core.Path.{◌≡◌, refl, sym, ap, subst, ◌∙◌}
use mathlib.Core.Bool.{Bool, true, false}
use mathlib.Core.List.{List, [], ◌++◌}
use Prim.Native.Nat.{ℕ, zero, suc, ◌+◌, ◌-◌, ◌≤◌, ◌<◌}
use native.Mathlib.Omega.{arith}
use borrow.Author.Tests.{le-leb, lt-leb}
use lib.ListN.{length, take, drop, length-append, length-drop}
use borrow.Rule.Slice.PartMut.{put_mid}
use lib.Seq.{sets-eq, length-take-le, take-append_seam, drop-append-add, drop-drop}
use Rattle.ledger.specs.Choice.{pick}
use Rattle.ledger.specs.Sizes.{longest}
use Rattle.transcript.specs.Text.{Put}
use Rattle.transcript.specs.Lines.{longest_line}
use Rattle.transcript.proofs.Writing.{copied}
use Rattle.keeper.specs.declared.Keeper.{Keeper}
use Rattle.replay.specs.Turns.{turn_of, Took, Turn}
use Rattle.nk.specs.Batches.{batch_room, most_before, Lines, turns_behind, batch_of, Laid}
use Rattle.replay.proofs.OneTurn.{ahead}
use Rattle.nk.proofs.Turning.{short}

-- ---- what a turn more makes of the lines
abbrev pub over : ℕ → List ℕ → ℕ → Keeper → List ℕ → Lines
over v j at k text = let a = turn_of v j at k in record { keeper = a.keeper; at = a.at; more = a.more; text = text ++ a.line }

either_way : (b : Bool) (l : Lines) → pick b l l ≡ l
unfolding pick
either_way true l = refl
either_way false l = refl

module _ (n : ℕ) (v : ℕ) (j : List ℕ) (at : ℕ) (k : Keeper) (text : List ℕ) where
  pub last_turn : (turn_of v j at k).more ≡ false → turns_behind (suc n) v j at k text ≡ over v j at k text
  unfolding turns_behind pick
  last_turn e = rw e

  pub full_turn : most_before < length (text ++ (turn_of v j at k).line) → turns_behind (suc n) v j at k text ≡ over v j at k text
  unfolding turns_behind pick
  full_turn h = rw (lt-leb (length (text ++ (turn_of v j at k).line)) most_before h) (either_way (turn_of v j at k).more _)

  pub further_turn : (turn_of v j at k).more ≡ true → length (text ++ (turn_of v j at k).line) ≤ most_before
      → turns_behind (suc n) v j at k text ≡ turns_behind n v j (turn_of v j at k).at (turn_of v j at k).keeper (text ++ (turn_of v j at k).line)
  unfolding turns_behind pick
  further_turn e h = rw (e, le-leb (length (text ++ (turn_of v j at k).line)) most_before h)

-- ---- a line laid behind a text
-- a text at a room's start, and behind it what stood there before
abbrev pub onto : List ℕ → List ℕ → List ℕ
onto text room = text ++ drop (length text) room

laid-behind : (text line room room' : List ℕ) (end : ℕ) → length text + length line ≤ length (onto text room) → Put (onto text room) room' (length text) line end
    → (end ≡ length (text ++ line)) × (room' ≡ onto (text ++ line) room)
laid-behind text line room room' end fits p =
    let l : length (text ++ line) ≡ length text + length line = length-append text line in
    let past : drop (length text + length line) (onto text room) ≡ drop (length (text ++ line)) room =
    drop-append-add text _ (length line) ∙ drop-drop (length line) (length text) room ∙ ap (λ (n : ℕ). drop n room) (sym l) in
    let front : take (length text) (onto text room) ≡ text = take-append_seam text _ in
    (p.place ∙ sym l, p.stored ∙ sets-eq line (onto text room) (length text) fits ∙ (λ i. (front i ++ line) ++ past i))

-- .. as it is copied there
laid_line : (room letters new : List ℕ) (at n : ℕ) → length letters ≡ n → at + n ≤ length room → new ≡ letters → Put room (put_mid at (at + n - at) room new) at letters (at + n)
laid_line room letters new at n l h e =
    subst (λ (m : ℕ). Put room (put_mid at (at + m - at) room new) at letters (at + m)) l (record { place = refl; stored = copied room letters new at (omega (arith, l, h)) e })

-- ---- turns under way, from a position, a keeper and a room: the room's text, and the turns from here on behind it, are the batch
pub record Filling (v : ℕ) (j : List ℕ) (from : ℕ) (first : Keeper) (bare : List ℕ) (at : ℕ) (k : Keeper) (count : ℕ) (room line : List ℕ) : Type 0 where
  pub text : List ℕ
  pub laid : room ≡ onto text bare
  pub counted : count ≡ length text
  pub space : count ≤ most_before
  pub lined : length line ≡ longest_line longest
  pub turns : ℕ
  pub enough : length j < at + turns
  pub same : turns_behind (suc turns) v j at k text ≡ batch_of v j from first

pub begun : (v : ℕ) (j : List ℕ) (at : ℕ) (k : Keeper) (room line : List ℕ) → length line ≡ longest_line longest → Filling v j at k room at k 0 room line
unfolding batch_of
begun v j at k room line l =
    record { text = []; laid = refl; counted = refl; space = omega arith; lined = l; turns = suc (length j); enough = omega arith; same = refl }

module _ (v : ℕ) (j : List ℕ) (from : ℕ) (first : Keeper) (bare : List ℕ) (at : ℕ) (k : Keeper) (count : ℕ) (room line : List ℕ)
    (g : Filling v j from first bare at k count room line) (k' : Keeper) (t : Turn) (out out' line' : List ℕ) (took : Took (turn_of v j at k) k' t out out' line line') where
  pub goes_on : t.more ≡ true → (at < t.at) × (t.at ≤ length j)
  goes_on e = let a = ahead v j at k (sym took.more ∙ e) in let p = took.at in (omega arith, omega arith)

  count_few : t.count ≤ longest_line longest
  count_few = let s = short v j at k in let n = took.count in omega arith

  pub line-length : length line' ≡ longest_line longest
  line-length =
      let s = short v j at k in
      let h = g.lined in
      let a = (turn_of v j at k).line in
      omega (arith, ap length took.written, length-append a (drop (length a) line), length-drop (length a) line)

  the_line : take t.count line' ≡ (turn_of v j at k).line
  the_line =
      ap (λ (n : ℕ). take n line') took.count ∙ ap (λ (x : List ℕ). take (length (turn_of v j at k).line) x) took.written
      ∙ take-append_seam (turn_of v j at k).line _

  pub in_line : t.count ≤ length line'
  in_line = let h = count_few in let l = line-length in omega arith

  -- the room is as long as it was
  pub as_roomy : length bare ≡ batch_room → length room ≡ batch_room
  as_roomy roomy =
      let f = g.space in
      let n = g.counted in
      omega (arith, ap length g.laid, length-append g.text (drop (length g.text) bare), length-drop (length g.text) bare, roomy)

  pub room_for : length room ≡ batch_room → count + t.count ≤ length room
  room_for roomy = let h = count_few in let f = g.space in omega (arith, roomy)

  -- the line, copied behind the text
  pub put_line : (new : List ℕ) → length room ≡ batch_room → new ≡ take t.count line' → Put room (put_mid count (count + t.count - count) room new) count (take t.count line') (count + t.count)
  put_line new roomy e = laid_line room (take t.count line') new count t.count (length-take-le t.count line' in_line) (room_for roomy) e

  module _ (roomy : length room ≡ batch_room) (room' : List ℕ) (end : ℕ) (put : Put room room' count (take t.count line') end) where
    behind : (end ≡ length (g.text ++ (turn_of v j at k).line)) × (room' ≡ onto (g.text ++ (turn_of v j at k).line) bare)
    behind =
        let put' : Put (onto g.text bare) room' (length g.text) (turn_of v j at k).line end = rw (← g.laid, ← g.counted, ← the_line) put in
        let r = room_for roomy in
        let fits : length g.text + length (turn_of v j at k).line ≤ length (onto g.text bare) = omega (arith, r, g.counted, took.count, ap length g.laid) in
        laid-behind g.text (turn_of v j at k).line bare room' end fits put'

    -- the last turn of a batch
    whole : (b : Bool) → t.more ≡ b → turns_behind (suc g.turns) v j at k g.text ≡ over v j at k g.text
        → Laid (batch_of v j from first) k' (record { at = t.at; more = b; count = end }) bare room'
    whole b m e =
        let s : over v j at k g.text ≡ batch_of v j from first = sym e ∙ g.same in
        record {
          keeper = took.keeper ∙ ap (λ (l : Lines). l.keeper) s;
          at = took.at ∙ ap (λ (l : Lines). l.at) s;
          more = sym m ∙ took.more ∙ ap (λ (l : Lines). l.more) s;
          count = behind.0 ∙ ap (λ (l : Lines). length l.text) s;
          written = behind.1 ∙ ap (λ (l : Lines). onto l.text bare) s;
        }

    pub ended : t.more ≡ false → Laid (batch_of v j from first) k' (record { at = t.at; more = false; count = end }) bare room'
    ended e = whole false e (last_turn g.turns v j at k g.text (sym took.more ∙ e))

    pub full : t.more ≡ true → most_before < end → Laid (batch_of v j from first) k' (record { at = t.at; more = true; count = end }) bare room'
    full e h = whole true e (full_turn g.turns v j at k g.text (omega (arith, h, behind.0)))

    pub again : t.more ≡ true → end ≤ most_before → Filling v j from first bare t.at k' end room' line'
    again e h = by g.turns g.enough g.same
      where
        by : (n : ℕ) → length j < at + n → turns_behind (suc n) v j at k g.text ≡ batch_of v j from first → Filling v j from first bare t.at k' end room' line'
        by zero p q = absurd (let m = goes_on e in omega (arith, m.0, m.1, p))
        by (suc n) p q =
            let m = goes_on e in
            let a = turn_of v j at k in
            let lines = g.text ++ a.line in
            let f = further_turn (suc n) v j at k g.text (sym took.more ∙ e) (omega (arith, h, behind.0)) in
            let here : turns_behind (suc n) v j t.at k' lines ≡ turns_behind (suc n) v j a.at a.keeper lines = λ i. turns_behind (suc n) v j (took.at i) (took.keeper i) lines in
            record {
              text = lines;
              laid = behind.1;
              counted = behind.0;
              space = h;
              lined = line-length;
              turns = n;
              enough = omega (arith, p, m.0);
              same = here ∙ sym f ∙ q;
            }
