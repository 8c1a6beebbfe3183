-- Bytes that a call hands out, in a room that is longer than the call knows.
use mathlib.Core.Path.{◌≡◌, refl, sym, ap, ◌∙◌}
use mathlib.Core.List.{List, [], ◌∷◌, ◌++◌, append_assoc}
use Prim.Native.Nat.{ℕ, zero, suc, ◌+◌, ◌≤◌, ◌<◌, min}
use native.Mathlib.Omega.{arith}
use lib.Dec.{ltb}
use lib.ListN.{length, take, drop, length-append, length-take, take-append-drop}
use lib.Seq.{length-take-le, take-append_seam}
use borrow.Author.Tests.{lt-ltb, ltb-false}
use Rattle.ledger.specs.Sizes.{longest}
use Rattle.ledger.specs.Choice.{pick}
use Rattle.ledger.specs.Shapes.{blocking_shape}
use Rattle.ledger.specs.Credits.{taken}
use Rattle.ledger.proofs.Picks.{pick_both, pick_by}
use Rattle.ledger.proofs.Crediting.{taken_wanted}
use Rattle.pool.proofs.Extracted.{laws}
use Rattle.keeper.specs.Generator.{generated}
use Rattle.keeper.specs.Record.{Outcome, room_after, Run}
use Rattle.keeper.specs.Calls.{Call, device_event, interrupted, written, seeded_with, generator_read, blocking_read_of}
use Rattle.keeper.specs.Narrative.{event_call, interrupt_call, write_call, seed_call, generate, read_call, deliver, blocking_call, act, told}
use Rattle.keeper.specs.declared.Keeper.{Keeper}
use Rattle.ledger.specs.declared.Answer.{Answer}
use Rattle.journal.proofs.Sides.{by_less}
use Rattle.keeper.proofs.Refusals.{delivered}
use Rattle.steps.specs.Promise.{Left, left, over, leaves}

-- ---- no call hands out more than 4,096 bytes
record Few (o : Outcome) : Type 0 where
  few : length o.bytes ≤ longest

none : (o : Outcome) → o.bytes ≡ [] → Few o
none o e = record { few = omega (arith, ap length e) }

under : (n : ℕ) (l : List ℕ) → n ≤ longest → length (take n l) ≤ longest
under n l h = omega (arith, length-take n l)

as_many : (m n : ℕ) → m ≡ n → n ≤ longest → m ≤ longest
as_many m n e h = omega (arith, e, h)

made_few : (len : ℕ) (w : Run) → len ≤ longest → Few (generate len w)
unfolding generate generated
made_few len w h = record { few = under len _ h }

delivered_few : (n : ℕ) (w : Run) → n ≤ longest → Few (deliver n w)
unfolding deliver
delivered_few n w h =
    let t = taken_wanted n 0 w.keeper.ledger.blocking.count in
    record { few = as_many _ _ ((laws blocking_shape).take-length (taken n 0 w.keeper.ledger.blocking.count) _) (omega (arith, t, h)) }

act-few : (k : Keeper) (c : Call) → Few (act k c)
unfolding act event_call interrupt_call write_call seed_call read_call blocking_call
act-few k (device_event device now stamp value) = pick_both Few _ (none _ refl) (pick_both Few _ (none _ refl) (none _ refl))
act-few k (interrupted now number stamp address) = pick_both Few _ (none _ refl) (none _ refl)
act-few k (written bs) = pick_both Few _ (none _ refl) (none _ refl)
act-few k (seeded_with now bs credit) = pick_both Few _ (none _ refl) (pick_both Few _ (none _ refl) (none _ refl))
act-few k (generator_read now len) =
    pick_by Few (ltb longest len) (λ h. none _ refl) (λ h. pick_both Few _ (none _ refl) (pick_both Few _ (none _ refl) (made_few len _ (ltb-false longest len h))))
act-few k (blocking_read_of n) =
    pick_by Few (ltb longest n) (λ h. none _ refl) (λ h. pick_both Few _ (none _ refl) (pick_both Few _ (none _ refl) (delivered_few n _ (ltb-false longest n h))))

pub few : (k : Keeper) (c : Call) → length (told k c).bytes ≤ longest
unfolding told
few k c = (pick_both Few _ (act-few k c) (none _ refl)).few

-- ---- over 4,096 bytes the length of a read does not matter
pub long_read : (k : Keeper) (now m n : ℕ) → longest < m → longest < n → told k (generator_read now m) ≡ told k (generator_read now n)
unfolding told act read_call pick
long_read k now m n hm hn = rw (lt-ltb longest m hm, lt-ltb longest n hn)

pub long_blocking : (k : Keeper) (m n : ℕ) → longest < m → longest < n → told k (blocking_read_of m) ≡ told k (blocking_read_of n)
unfolding told act blocking_call pick
long_blocking k m n hm hn = rw (lt-ltb longest m hm, lt-ltb longest n hn)

-- ---- a call that leaves an empty room empty hands out nothing, and leaves any room as it is
nothing : (bs : List ℕ) → [] ≡ bs ++ drop (length bs) [] → bs ≡ []
nothing [] e = refl
nothing (b ∷ bs) e = absurd (let z : 0 ≡ suc (length (bs ++ drop (length (b ∷ bs)) [])) = ap length e in omega (arith, z))

pub quiet : (k k' : Keeper) (c : Call) (a : Answer) (room : List ℕ) → left k' a [] ≡ leaves k c [] → left k' a room ≡ leaves k c room
unfolding leaves
quiet k k' c a room e =
    let b : (told k c).bytes ≡ [] = nothing (told k c).bytes (ap (λ (x : Left). x.room) e) in
    λ i. record {
      keeper = (e i).keeper;
      answer = (e i).answer;
      room = sym (ap (λ (bs : List ℕ). room_after room bs) b) i;
    }

-- ---- a part of a room
-- what stands past the part stays
beyond : (b n : ℕ) (l : List ℕ) → b ≤ n → drop b (take n l) ++ drop n l ≡ drop b l
beyond zero n l h = take-append-drop n l
beyond (suc b) zero l h = absurd (omega arith)
beyond (suc b) (suc n) [] h = refl
beyond (suc b) (suc n) (x ∷ l) h = beyond b n l (omega arith)

-- bytes at the front of a part stand at the front of the room
pub part_of : (n : ℕ) (room bs xs : List ℕ) → n ≤ length room → length xs ≡ n → xs ≡ room_after (take n room) bs → xs ++ drop n room ≡ room_after room bs
part_of n room bs xs h l e =
    let t = length-take-le n room h in
    let b : length bs ≤ n = omega (arith, ap length e, length-append bs (drop (length bs) (take n room)), l) in
    ap (λ (ys : List ℕ). ys ++ drop n room) e ∙ append_assoc bs _ _ ∙ ap (λ (ys : List ℕ). bs ++ ys) (beyond (length bs) n room b)

longer : (n : ℕ) (room xs : List ℕ) (k k' : Keeper) (c d : Call) (a : Answer) → n ≤ length room → length xs ≡ length (take n room) → told k c ≡ told k d
    → left k' a xs ≡ leaves k c (take n room) → left k' a (xs ++ drop n room) ≡ leaves k d room
unfolding leaves
longer n room xs k k' c d a h l s e =
    let p = part_of n room (told k c).bytes xs h (l ∙ length-take-le n room h) (ap (λ (x : Left). x.room) e) in
    (λ i. record { keeper = (e i).keeper; answer = (e i).answer; room = p i }) ∙ ap (over room) s

-- ---- what was handed out stands in front, and its length is what the answer says
pub record Front (k : Keeper) (c : Call) (a : Answer) (room : List ℕ) : Type 0 where
  pub fits : a.delivered ≤ length room
  pub bytes : take a.delivered room ≡ (told k c).bytes

pub front : (k k' : Keeper) (c : Call) (a : Answer) (room room' : List ℕ) → left k' a room' ≡ leaves k c room → Front k c a room'
unfolding leaves
front k k' c a room room' e =
    let bs = (told k c).bytes in
    let r : room' ≡ bs ++ drop (length bs) room = ap (λ (x : Left). x.room) e in
    let n : a.delivered ≡ length bs = ap (λ (x : Left). x.answer.delivered) e ∙ delivered k c in
    record {
      fits = omega (arith, n, ap length r, length-append bs (drop (length bs) room));
      bytes = ap (λ (m : ℕ). take m room') n ∙ ap (λ (x : List ℕ). take (length bs) x) r ∙ take-append_seam bs _;
    }

-- ---- a read into a room for 4,097 bytes: a part of it is enough, whatever the length
same_read : (call : ℕ → Call) (k : Keeper) (len n : ℕ) → ((m l : ℕ) → longest < m → longest < l → told k (call m) ≡ told k (call l))
    → n ≡ min len (longest + 1) → told k (call n) ≡ told k (call len)
same_read call k len n long e =
    by_less longest len (λ h. long n len (omega (arith, e, h)) h) (λ h. let m : n ≡ len = omega (arith, e, h) in ap (λ (x : ℕ). told k (call x)) m)

module _ (n len : ℕ) (room : List ℕ) (all : length room ≡ longest + 1) (part : n ≡ min len (longest + 1)) where
  pub as_long : length (take n room) ≡ n
  as_long = length-take-le n room (omega arith)

  pub part_read : (k k' : Keeper) (a : Answer) (now : ℕ) (xs : List ℕ) → length xs ≡ length (take n room)
      → left k' a xs ≡ leaves k (generator_read now (length (take n room))) (take n room) → left k' a (xs ++ drop n room) ≡ leaves k (generator_read now len) room
  part_read k k' a now xs l = longer n room xs k k' _ _ a (omega arith) l (same_read (generator_read now) k len _ (long_read k now) (as_long ∙ part))

  pub part_blocking : (k k' : Keeper) (a : Answer) (xs : List ℕ) → length xs ≡ length (take n room)
      → left k' a xs ≡ leaves k (blocking_read_of (length (take n room))) (take n room) → left k' a (xs ++ drop n room) ≡ leaves k (blocking_read_of len) room
  part_blocking k k' a xs l = longer n room xs k k' _ _ a (omega arith) l (same_read blocking_read_of k len _ (long_blocking k) (as_long ∙ part))

-- ---- what is promised of a call is promised of another name for it
pub called : (k k' : Keeper) (c d : Call) (a : Answer) (room room' : List ℕ) → c ≡ d → left k' a room' ≡ leaves k d room → left k' a room' ≡ leaves k c room
called k k' c d a room room' e h = h ∙ ap (λ (x : Call). leaves k x room) (sym e)
