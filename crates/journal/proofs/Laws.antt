-- What the crates above may cite of the bytes that a record carries, and of the start bytes. Each follows from the definitions alone.
use mathlib.Core.Path.{◌≡◌, sym}
use mathlib.Core.List.{List, ◌++◌}
use Prim.Native.Nat.{ℕ, ◌+◌, ◌-◌, ◌≤◌}
use native.Mathlib.Omega.{arith}
use lib.ListN.{length, take, drop, length-take, length-drop}
use lib.Seq.{length-take-le, take-append_seam}
use Rattle.ledger.specs.Sizes.{longest, start_bytes}
use Rattle.journal.specs.Layout.{carries}
use Rattle.journal.specs.Reading.{read_at}
use Rattle.journal.specs.Writing.{carried_by}
use Rattle.journal.specs.Header.{header_of, start_of}
use Rattle.journal.specs.declared.records.Record.{Record}
use Rattle.journal.specs.Found.{One}
use Rattle.journal.proofs.Runs.{payload_cut}
use Rattle.journal.proofs.Onward.{stands, read_ahead}
use Rattle.journal.proofs.GoodHeader.{header_good}

-- the bytes that a record carries are no more than a call takes, and all there: they stand before the position after it
pub carried_whole : (v : ℕ) (j : List ℕ) (at : ℕ) (r : Record) (next : ℕ) → read_at v j at ≡ One r next → (carries r ≤ longest) × ((carries r ≤ next) × (next ≤ length j))
carried_whole v j at r next e =
    let w = (stands v j at r next e).whole in
    (w.few, (omega (arith, w.after), (read_ahead v j at r next e).1))

-- those of a record that is read of a cut journal are those of the whole
pub carried_cut : (v n : ℕ) (j : List ℕ) (at : ℕ) (r : Record) (next : ℕ) → read_at v (take n j) at ≡ One r next → carried_by (take n j) r next ≡ carried_by j r next
unfolding carried_by
carried_cut v n j at r next e =
    let c = (carried_whole v (take n j) at r next e).1 in
    payload_cut n j (next - carries r) (carries r) (omega (arith, c.0, c.1, length-take n j))

-- and where more bytes follow they stay
pub payload_longer : (j more : List ℕ) (start len : ℕ) → start + len ≤ length j → take len (drop start (j ++ more)) ≡ take len (drop start j)
payload_longer j more start len h =
    let e : take len (drop start (take (length j) (j ++ more))) ≡ take len (drop start (j ++ more)) = payload_cut (length j) (j ++ more) start len h in
    sym (rw (take-append_seam j more) at e)

pub carried_longer : (v : ℕ) (j more : List ℕ) (at : ℕ) (r : Record) (next : ℕ) → read_at v j at ≡ One r next → carried_by (j ++ more) r next ≡ carried_by j r next
unfolding carried_by
carried_longer v j more at r next e =
    let c = (carried_whole v j at r next e).1 in
    payload_longer j more (next - carries r) (carries r) (omega (arith, c.0, c.1))

-- the start bytes are those of the whole, if the cut journal's header is good
pub start_cut : (n : ℕ) (j : List ℕ) → (header_of (take n j)).number ≡ 0 → start_of (take n j) ≡ start_of j
unfolding start_of
start_cut n j e =
    let w = (header_good (take n j) e).there in
    payload_cut n j 5 start_bytes (omega (arith, w, length-take n j))

-- of which there are 48
pub start_48 : (j : List ℕ) → (header_of j).number ≡ 0 → length (start_of j) ≡ start_bytes
unfolding start_of
start_48 j e =
    let w = (header_good j e).there in
    length-take-le start_bytes (drop 5 j) (omega (arith, w, length-drop 5 j))
