-- The ledger of bits, of the code: a record that held anything, made a keeper from any start bytes, and then any calls. After every one of them the
-- books are in order, by the answers that the calls gave and the counts that they left.
use mathlib.Core.Path.{◌≡◌, refl, ap, ap₂, ◌∙◌}
use mathlib.Core.List.{List, [], ◌∷◌, map, reverse}
use Prim.Native.Nat.{ℕ, zero, suc}
use lib.ListN.{length, take}
use Rattle.ledger.specs.Sizes.{start_bytes}
use Rattle.ledger.specs.Shapes.{input_shape}
use Rattle.ledger.specs.Credits.{crediting}
use Rattle.ledger.specs.Worth.{of_input}
use Rattle.ledger.specs.Awards.{award, given}
use Rattle.ledger.specs.LedgerOfBits.{Books}
use Rattle.ledger.specs.declared.Answer.{Answer}
use Rattle.keeper.specs.Record.{fresh, view, Outcome}
use Rattle.keeper.specs.Calls.{Call, public}
use Rattle.keeper.specs.Narrative.{told}
use Rattle.keeper.specs.Taken.{onto_key_by, brought_over_by, taken_over}
use Rattle.keeper.specs.Demands.{outcomes}
use Rattle.keeper.specs.declared.Keeper.{Keeper}
use Rattle.keeper.proofs.LedgerOfBits as Told
use Rattle.steps.specs.Promise.{Left, leaves}
use Rattle.steps.specs.Runs.{Ran, ended, next, last_of, MadeAndRan}
use Rattle.steps.proofs.FixedAnswers.{makes}
use Rattle.steps.proofs.NewDevices.{ran_to}

-- ---- runs
-- the first calls of a run are a run
pub ran_first : (n : ℕ) (k : Keeper) (cs : List Call) (xs : List Left) → Ran k cs xs → Ran k (take n cs) (take n xs)
ran_first zero k cs xs r = ended
ran_first (suc n) k [] [] ended = ended
ran_first (suc n) k (c ∷ cs) (x ∷ xs) (next room h r) = next room h (ran_first n x.keeper cs xs r)
ran_first (suc n) k [] (x ∷ xs) r = elim r [ ]
ran_first (suc n) k (c ∷ cs) [] r = elim r [ ]

-- a run gives the answers that its calls are told to give
ran_answers : (j k : Keeper) (cs : List Call) (xs : List Left) → j ≡ k → Ran j cs xs → map (λ (x : Left). x.answer) xs ≡ map (λ (o : Outcome). o.answer) (outcomes k cs)
unfolding outcomes leaves
ran_answers j k [] [] e ended = refl
ran_answers j k (c ∷ cs) (x ∷ xs) e (next room h r) =
    ap₂ (λ (a : Answer) (l : List Answer). a ∷ l) (ap (λ (y : Left). y.answer) h ∙ ap (λ (i : Keeper). (told i c).answer) e)
    (ran_answers x.keeper (told k c).keeper cs xs (ap (λ (y : Left). y.keeper) h ∙ ap (λ (i : Keeper). (told i c).keeper) e) r)
ran_answers j k [] (x ∷ xs) e x5 = elim x5 [ ]
ran_answers j k (c ∷ cs) [] e x4 = elim x4 [ ]

module _ (k : Keeper) (start : List ℕ) (m : Left) (cs : List Call) (xs : List Left) (h : length start ≡ start_bytes) (r : MadeAndRan k start m cs xs) where
  -- the making leaves a fresh keeper
  is_fresh : m.keeper ≡ fresh start
  is_fresh = ap (λ (y : Left). y.keeper) (makes k start m r.made h)

  -- THE BOOKS, after every call: after the first n of them, whatever n
  pub books : (n : ℕ)
      → let l = (last_of m.keeper (take n xs)).ledger in
      Books (map public (take n cs)) (map (λ (x : Left). x.answer) (take n xs)) l.input.count l.blocking.count
      (taken_over onto_key_by m.keeper (take n cs)) (taken_over brought_over_by m.keeper (take n cs))
  books n =
      let s = ran_first n m.keeper cs xs r.ran in
      rw (ran_answers m.keeper (fresh start) (take n cs) (take n xs) is_fresh s, ran_to m.keeper (fresh start) (take n cs) (take n xs) is_fresh s, is_fresh)
      (Told.books start (take n cs) h)

  -- the next call awards what the record's own timers and its own tally give
  pub by_calls_alone : (c : Call) → award (reverse (map public cs)) (public c) ≡ given (view (last_of m.keeper xs)) (public c)
  by_calls_alone c = rw (ran_to m.keeper (fresh start) cs xs is_fresh r.ran) (Told.by_calls_alone start cs c h)

  -- and its answer tells so many units as crediting the award adds
  pub award-credited : (c : Call) (room : List ℕ) (x : Left) → x ≡ leaves (last_of m.keeper xs) c room
      → of_input (public c) x.answer.added ≡ (crediting input_shape.size (award (reverse (map public cs)) (public c)) (last_of m.keeper xs).ledger.input.count).added
  unfolding leaves
  award-credited c room x e =
      ap (λ (y : Left). of_input (public c) y.answer.added) e
      ∙ rw (ran_to m.keeper (fresh start) cs xs is_fresh r.ran) (Told.award-credited start cs c h)
