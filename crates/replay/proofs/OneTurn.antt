-- What a turn leaves, by what stands at the position.
use mathlib.Core.Path.{◌≡◌, refl, ap, ◌∙◌}
use mathlib.Core.Bool.{true, false, false≢true}
use mathlib.Core.List.{List, ◌++◌}
use Prim.Native.Nat.{ℕ, ◌≤◌, ◌<◌}
use native.Mathlib.Omega.{arith}
use borrow.Author.Tests.{le-leb}
use lib.ListN.{length, take, drop}
use Rattle.journal.specs.Reading.{read_at}
use Rattle.journal.specs.Walking.{entry}
use Rattle.journal.specs.declared.records.Record.{Record}
use Rattle.journal.specs.Found.{Found, One, Stop, End}
use Rattle.journal.proofs.Onward.{read_ahead}
use Rattle.ledger.specs.Choice.{pick}
use Rattle.ledger.specs.Sizes.{longest}
use Rattle.transcript.specs.Lines.{Written, line_of, line_in, end_of, end_in, at_start, longest_line, longest_end}
use Rattle.keeper.specs.Record.{room_after}
use Rattle.keeper.specs.Narrative.{told}
use Rattle.keeper.specs.declared.Keeper.{Keeper}
use Rattle.ledger.specs.declared.Answer.{Answer}
use Rattle.steps.specs.Promise.{Left, left, leaves}
use Rattle.replay.specs.Running.{call_of, line_for}
use Rattle.replay.specs.Turns.{after, turn_of, Took}
use Rattle.replay.proofs.Handing.{few, front}

-- a text that fitted
wrote : (room b t : List ℕ) (n : ℕ) → ◌≡◌ {A = Written} (record { count = n; room = b }) (at_start room t) → (n ≡ length t) × (b ≡ t ++ drop (length t) room)
unfolding at_start
wrote room b t n h = (ap (λ (w : Written). w.count) h, ap (λ (w : Written). w.room) h)

ended : (room b : List ℕ) (n number : ℕ) → longest_line longest ≤ length room → ◌≡◌ {A = Written} (record { count = n; room = b }) (end_in room number)
    → (n ≡ length (end_of number)) × (b ≡ end_of number ++ drop (length (end_of number)) room)
unfolding end_in pick
ended room b n number big h =
    let g : longest_end ≤ length room = omega arith in
    wrote room b (end_of number) n (rw (le-leb longest_end (length room) g) at h)

module _ (v : ℕ) (j : List ℕ) (at : ℕ) (k : Keeper) (room room' : List ℕ) (n : ℕ) (big : longest_line longest ≤ length room) where
  pub at-stop : (number : ℕ) (out : List ℕ) → read_at v j at ≡ Stop number → ◌≡◌ {A = Written} (record { count = n; room = room' }) (end_in room number)
      → Took (turn_of v j at k) k (record { at = at; more = false; count = n }) out out room room'
  unfolding turn_of after
  at-stop number out e h =
      let q = ended room room' n number big h in
      rw e (record { keeper = refl; at = refl; more = refl; count = q.0; handed = refl; written = q.1 })

  pub at_end : (out : List ℕ) → read_at v j at ≡ End → ◌≡◌ {A = Written} (record { count = n; room = room' }) (end_in room 0)
      → Took (turn_of v j at k) k (record { at = at; more = false; count = n }) out out room room'
  unfolding turn_of after
  at_end out e h =
      let q = ended room room' n 0 big h in
      rw e (record { keeper = refl; at = refl; more = refl; count = q.0; handed = refl; written = q.1 })

  pub at_one : (r : Record) (next : ℕ) (k' : Keeper) (a : Answer) (out out' : List ℕ) → read_at v j at ≡ One r next
      → left k' a out' ≡ leaves k (call_of v j (entry at r next)) out
      → ◌≡◌ {A = Written} (record { count = n; room = room' }) (line_in room a k'.ledger.input.count k'.ledger.blocking.count (take a.delivered out'))
      → Took (turn_of v j at k) k' (record { at = next; more = true; count = n }) out out' room room'
  unfolding turn_of after line_in line_for leaves pick
  at_one r next k' a out out' e l h =
      let c = call_of v j (entry at r next) in
      let o = told k c in
      let ek : k' ≡ o.keeper = ap (λ (x : Left). x.keeper) l in
      let ea : a ≡ o.answer = ap (λ (x : Left). x.answer) l in
      let er : out' ≡ room_after out o.bytes = ap (λ (x : Left). x.room) l in
      let f = front k k' c a out out' l in
      let m = few k c in
      let g : longest_line (length (take a.delivered out')) ≤ length room = omega (arith, ap length f.bytes) in
      let w = wrote room room' _ n (rw (le-leb (longest_line (length (take a.delivered out'))) (length room) g) at h) in
      let same : line_of a k'.ledger.input.count k'.ledger.blocking.count (take a.delivered out') ≡ line_for o =
      λ i. line_of (ea i) (ek i).ledger.input.count (ek i).ledger.blocking.count (f.bytes i) in
      rw e
      (record {
        keeper = ek;
        at = refl;
        more = refl;
        count = w.0 ∙ ap length same;
        handed = er;
        written = w.1 ∙ ap (λ (t : List ℕ). t ++ drop (length t) room) same;
      })

-- a record that was run lies ahead, within the journal
ahead_after : (v : ℕ) (j : List ℕ) (at : ℕ) (k : Keeper) (f : Found) → read_at v j at ≡ f → (after v j at k f).more ≡ true
    → (at < (after v j at k f).at) × ((after v j at k f).at ≤ length j)
unfolding after
ahead_after v j at k (One r next) h e = read_ahead v j at r next h
ahead_after v j at k (Stop n) h e = absurd (false≢true e)
ahead_after v j at k End h e = absurd (false≢true e)

pub ahead : (v : ℕ) (j : List ℕ) (at : ℕ) (k : Keeper) → (turn_of v j at k).more ≡ true → (at < (turn_of v j at k).at) × ((turn_of v j at k).at ≤ length j)
unfolding turn_of
ahead v j at k e = ahead_after v j at k (read_at v j at) refl e
