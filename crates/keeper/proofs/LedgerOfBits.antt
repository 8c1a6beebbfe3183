-- The ledger of bits, of whole keepers: `ledger` has it of what can be seen, and that is all that awards, answers and counts depend on. The bytes
-- taken are those that the extractions hand over.
use mathlib.Core.Path.{◌≡◌, refl, sym, ap, ap₂, subst, ◌∙◌}
use mathlib.Core.List.{List, [], ◌∷◌, map, reverse}
use Prim.Native.Nat.{ℕ, ◌+◌}
use lib.ListN.{length}
use Rattle.ledger.specs.Sizes.{start_bytes}
use Rattle.ledger.specs.Shapes.{input_shape}
use Rattle.ledger.specs.Credits.{crediting}
use Rattle.ledger.specs.Range.{View}
use Rattle.ledger.specs.Machine.{Shown, fresh_view, plan_at}
use Rattle.ledger.specs.Worth.{of_input}
use Rattle.ledger.specs.Awards.{award, given}
use Rattle.ledger.specs.LedgerOfBits.{answers_from, taken_from, reseeds_from, transfers_from, Books}
use Rattle.ledger.specs.declared.Plan.{Plan}
use Rattle.ledger.specs.declared.Answer.{Answer}
use Rattle.ledger.proofs.InRange.{fresh-fine}
use Rattle.ledger.proofs.Awarded as Seen
use Rattle.ledger.proofs.LedgerOfBits.{books as seen-books}
use Rattle.pool.proofs.Extracted.{laws}
use Rattle.keeper.specs.Record.{fresh, view, Outcome}
use Rattle.keeper.specs.Calls.{Call, public}
use Rattle.keeper.specs.Narrative.{told}
use Rattle.keeper.specs.Taken.{onto_key_by, brought_over_by, taken_over}
use Rattle.keeper.specs.Demands.{outcomes, keeper_after}
use Rattle.keeper.specs.declared.Keeper.{Keeper}
use Rattle.keeper.proofs.Shadow.{Whole, shadow, stays_whole, view_is}
use Rattle.keeper.proofs.Blind.{fresh_whole}
use Rattle.keeper.proofs.StaysInRange.{after_fine}
use Rattle.keeper.proofs.NewDevices.{view_after_lem}

-- ---- the award
-- each call awards, by the calls alone, what the keeper's own timers and its own tally give
pub by_calls_alone : (start : List ℕ) (cs : List Call) (c : Call) → length start ≡ start_bytes
    → award (reverse (map public cs)) (public c) ≡ given (view (keeper_after (fresh start) cs)) (public c)
by_calls_alone start cs c h =
    Seen.by_calls_alone (map public cs) (public c) ∙ sym (ap (λ (v : View). given v (public c)) (view_after_lem (fresh start) cs (fresh_whole start h)))

-- and so much is what its input pool is credited with
pub award-credited : (start : List ℕ) (cs : List Call) (c : Call) → length start ≡ start_bytes
    → let k = keeper_after (fresh start) cs in
    of_input (public c) (told k c).answer.added ≡ (crediting input_shape.size (award (reverse (map public cs)) (public c)) k.ledger.input.count).added
award-credited start cs c h =
    let w = (after_fine (fresh start) cs (fresh_whole start h) fresh-fine).0 in
    let k = keeper_after (fresh start) cs in
    ap (λ (s : Shown). of_input (public c) s.answer.added) (shadow k c w)
    ∙ Seen.given-credited (view k) (public c)
    ∙ ap (λ (n : ℕ). (crediting input_shape.size n k.ledger.input.count).added) (sym (by_calls_alone start cs c h))

-- ---- the books
-- answers
answers_are : (k : Keeper) (cs : List Call) → Whole k → map (λ (o : Outcome). o.answer) (outcomes k cs) ≡ answers_from (view k) (map public cs)
unfolding outcomes answers_from
answers_are k [] w = refl
answers_are k (c ∷ cs) w =
    ap₂ (λ (a : Answer) (l : List Answer). a ∷ l) (ap (λ (s : Shown). s.answer) (shadow k c w))
    (answers_are (told k c).keeper cs (stays_whole k c w) ∙ ap (λ (v : View). answers_from v (map public cs)) (view_is k c w))

-- bytes taken
taken_are : (bytes : Keeper → Call → List ℕ) (planned : Plan → ℕ) → ((k : Keeper) (c : Call) → length (bytes k c) ≡ planned (plan_at (view k) (public c)))
    → (k : Keeper) (cs : List Call) → Whole k → taken_over bytes k cs ≡ taken_from planned (view k) (map public cs)
unfolding taken_over taken_from
taken_are bytes planned e k [] w = refl
taken_are bytes planned e k (c ∷ cs) w =
    ap₂ ◌+◌ (e k c)
    (taken_are bytes planned e (told k c).keeper cs (stays_whole k c w) ∙ ap (λ (v : View). taken_from planned v (map public cs)) (view_is k c w))

reseeds_are : (k : Keeper) (cs : List Call) → Whole k → taken_over onto_key_by k cs ≡ reseeds_from (view k) (map public cs)
reseeds_are = taken_are onto_key_by (λ (p : Plan). p.reseed) (λ k c. (laws input_shape).take-length (plan_at (view k) (public c)).reseed _)

transfers_are : (k : Keeper) (cs : List Call) → Whole k → taken_over brought_over_by k cs ≡ transfers_from (view k) (map public cs)
transfers_are = taken_are brought_over_by (λ (p : Plan). p.transfer) (λ k c. (laws input_shape).take-length (plan_at (view k) (public c)).transfer _)

-- THE BOOKS after any calls on a fresh keeper
pub books : (start : List ℕ) (cs : List Call) → length start ≡ start_bytes
    → let k = fresh start in
    let l = (keeper_after k cs).ledger in
    Books (map public cs) (map (λ (o : Outcome). o.answer) (outcomes k cs)) l.input.count l.blocking.count (taken_over onto_key_by k cs) (taken_over brought_over_by k cs)
books start cs h =
    let k = fresh start in
    let w = fresh_whole start h in
    rw (answers_are k cs w, reseeds_are k cs w, transfers_are k cs w)
    (subst (λ (v : View). Books (map public cs) (answers_from fresh_view (map public cs)) v.ledger.input.count v.ledger.blocking.count (reseeds_from fresh_view (map public cs)) (transfers_from fresh_view (map public cs)))
    (sym (view_after_lem k cs w)) (seen-books (map public cs)))
