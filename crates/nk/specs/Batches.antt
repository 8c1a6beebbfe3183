-- A journal's transcript as the program writes it: in texts, one a write, each as many lines as a room takes.
use Rattle.std.specs.Prelude.{Bool, false, ◌≡◌, List, [], ◌∷◌, ◌++◌, ℕ, zero, suc, ◌-◌, ◌<◌, leb, eqb, length, drop, get_or}
use Rattle.ledger.specs.Choice.{pick}
use Rattle.ledger.specs.Sizes.{longest}
use Rattle.journal.specs.Header.{header_of, start_of}
use Rattle.transcript.specs.Lines.{end_of, longest_line}
use Rattle.keeper.specs.Record.{fresh}
use Rattle.keeper.specs.declared.Keeper.{Keeper}
use Rattle.replay.specs.Turns.{turn_of}
use Rattle.nk.specs.declared.batches.Batch.{Batch}

-- what a batch is: its lines, and the keeper, the position and whether there is more behind them
pub record Lines : Type 0 where
  pub keeper : Keeper
  pub at : ℕ
  pub more : Bool
  pub text : List ℕ

-- the room that lines are gathered in, and how full it may be for the longest line to fit still
abbrev pub batch_room : ℕ
batch_room = 65536

abbrev pub most_before : ℕ
most_before = batch_room - longest_line longest

-- turns in a version whose lines come behind a text, until the replay ends or the longest line would no longer fit the room. n turns at most
unfoldable pub turns_behind : ℕ → ℕ → List ℕ → ℕ → Keeper → List ℕ → Lines
turns_behind zero v j at k text = record { keeper = k; at = at; more = false; text = text }
turns_behind (suc n) v j at k text =
    let a = turn_of v j at k in
    let lines = text ++ a.line in
    let on = turns_behind n v j a.at a.keeper lines in
    let over : Lines = record { keeper = a.keeper; at = a.at; more = a.more; text = lines } in
    pick a.more (pick (leb (length lines) most_before) on over) over

-- the batch at a position, on a keeper as it is there. No journal has more turns than bytes, but for the last
unfoldable pub batch_of : ℕ → List ℕ → ℕ → Keeper → Lines
batch_of v j at k = turns_behind (suc (suc (length j))) v j at k []

-- the texts of n batches one after another, stopping where one says that there is no more
unfoldable pub batches_from : ℕ → ℕ → List ℕ → ℕ → Keeper → List (List ℕ)
batches_from zero v j at k = []
batches_from (suc n) v j at k =
    let b = batch_of v j at k in b.text ∷ pick b.more (batches_from n v j b.at b.keeper) []

-- THE TEXTS of a journal, in the order in which they are written. proofs/Texts.antt shows that one behind another they are its transcript
unfoldable pub texts_of : List ℕ → List (List ℕ)
texts_of j =
    let h = header_of j in
    pick (eqb h.number 0) (batches_from (suc (length j)) h.version j h.place (fresh (start_of j))) (end_of h.number ∷ [])

-- what the code hands back of a batch, and what then stands in the room: the text, and behind it what stood there before
pub record Laid (b : Lines) (k : Keeper) (r : Batch) (room room' : List ℕ) : Type 0 where
  pub keeper : k ≡ b.keeper
  pub at : r.at ≡ b.at
  pub more : r.more ≡ b.more
  pub count : r.count ≡ length b.text
  pub written : room' ≡ b.text ++ drop (length b.text) room

-- a text is the one that comes next, where so many were handed over
pub record Next (j : List ℕ) (done : ℕ) (text : List ℕ) : Type 0 where
  pub left : done < length (texts_of j)
  pub this : text ≡ get_or (texts_of j) done []
