-- Work is real: of every call of every run from 48 start bytes, the ChaCha20 count is how far the counter moved, and the compressions are
-- those of the blocks by which extraction moved the two pools.
use mathlib.Core.Path.{◌≡◌, sym, ap, ◌∙◌}
use mathlib.Core.List.{List, [], ◌∷◌}
use Prim.Native.Nat.{ℕ, zero, suc, ◌+◌, ◌%◌, ◌^◌, ◌≤◌}
use native.Mathlib.Omega.{arith}
use native.Mathlib.Nat.{zero-add, suc-add}
use lib.ListN.{length}
use Rattle.words.proofs.Numbers.{bytes_words_lt}
use Rattle.ledger.specs.Choice.{pick}
use Rattle.ledger.specs.Shapes.{Shape, input_shape}
use Rattle.ledger.specs.Places.{moved, moved_blocks, blocks_of, extracted_from, costs}
use Rattle.ledger.specs.Plans.{Small}
use Rattle.ledger.specs.Range.{View}
use Rattle.ledger.specs.Machine.{Shown, plan_at, input_moved, blocking_moved, planned, step_view}
use Rattle.ledger.specs.declared.Plan.{Plan}
use Rattle.ledger.specs.declared.Spot.{Spot}
use Rattle.ledger.proofs.SmallPlans.{small}
use Rattle.pool.specs.Mixing.{mix}
use Rattle.pool.specs.Extracting.{extract}
use Rattle.pool.proofs.Extracted.{laws}
use Rattle.keeper.specs.Generator.{onto_key, generated}
use Rattle.keeper.specs.Record.{input_pool, fresh, view}
use Rattle.keeper.specs.Calls.{Call, public, stirred_by, payload}
use Rattle.keeper.specs.Narrative.{told}
use Rattle.keeper.specs.Obey.{obey, step}
use Rattle.keeper.specs.Work.{counter, Worked, AllWorked, StartBytes}
use Rattle.keeper.specs.declared.Keeper.{Keeper}
use Rattle.keeper.proofs.Counter.{Gen, key_counter, key_gen, generated-counter, generated_gen}
use Rattle.keeper.proofs.Same.{same}
use Rattle.keeper.proofs.Shadow.{Whole, shadow, view_is, stays_whole}
use Rattle.keeper.proofs.Blind.{fresh_whole}

-- ---- the generator's blocks
-- what is taken for a reseed, under a plan
onto : Call → Plan → Keeper → List ℕ
onto c p k = (extract input_shape p.reseed (mix input_shape (input_pool k) (pick p.feeds (payload c (pick p.stirs (stirred_by c k.fast) k.fast)) []))).bytes

onto-few : (c : Call) (p : Plan) (k : Keeper) → Small p → length (onto c p k) ≤ 32
unfolding onto
onto-few c p k f = rw ((laws input_shape).take-length p.reseed _) f.reseed

obey_gen : (c : Call) (p : Plan) (k : Keeper) → Small p → Gen k.generator → Gen (obey c p k).keeper.generator
unfolding obey onto
obey_gen c p k f g = generated_gen p.stream (onto_key (onto c p k) k.generator) (key_gen (onto c p k) k.generator (onto-few c p k f) g)

obey-counter : (c : Call) (p : Plan) (k : Keeper) → Small p → Gen k.generator
    → counter (obey c p k).keeper.generator ≡ (counter k.generator + (obey c p k).answer.blocks) % 2 ^ 64
unfolding obey onto
obey-counter c p k f g =
    let h = onto-few c p k f in
    let x = onto_key (onto c p k) k.generator in
    generated-counter p.stream x (key_gen (onto c p k) k.generator h g)
    ∙ ap (λ (n : ℕ). (n + (generated p.stream x).blocks) % 2 ^ 64) (key_counter (onto c p k) k.generator h)

-- a generator in order stays so, whatever the call
pub stays_gen : (k : Keeper) (c : Call) → Gen k.generator → Gen (told k c).keeper.generator
unfolding step
stays_gen k c g = rw (same k c) (obey_gen c (plan_at (view k) (public c)) k (small _ _ _ _) g)

-- the counter moves by the blocks that are reported
blocks_real : (k : Keeper) (c : Call) → Gen k.generator → counter (told k c).keeper.generator ≡ (counter k.generator + (told k c).answer.blocks) % 2 ^ 64
unfolding step
blocks_real k c g = rw (same k c) (obey-counter c (plan_at (view k) (public c)) k (small _ _ _ _) g)

-- a fresh keeper's generator is in order
pub fresh_gen : (start : List ℕ) → StartBytes start → Gen (fresh start).generator
fresh_gen start b =
    record {
      long = (fresh_whole start b.long).generator;
      low = bytes_words_lt start b.each 8;
      high = bytes_words_lt start b.each 9;
    }

-- ---- the pools' compressions
blocks_add : (sh : Shape) (a b : ℕ) (s : Spot) → moved_blocks sh b (moved_blocks sh a s) ≡ moved_blocks sh (a + b) s
unfolding moved_blocks
blocks_add sh zero b s = ap (λ (n : ℕ). moved_blocks sh n s) (sym (zero-add b))
blocks_add sh (suc a) b s = blocks_add sh a b (moved sh 20 s) ∙ ap (λ (n : ℕ). moved_blocks sh n s) (sym (suc-add a b))

-- ---- one call, on a keeper whose lists have their lengths and whose counter is one of two words
worked : (k : Keeper) (c : Call) → Whole k → Gen k.generator → Worked k (public c) (told k c).keeper (told k c).answer
unfolding step_view planned input_moved blocking_moved extracted_from costs
worked k c w g =
    let p = plan_at (view k) (public c) in
    record {
      blocks = blocks_real k c g;
      input = ap (λ (u : View). u.ledger.input.spot) (view_is k c w) ∙ blocks_add input_shape (blocks_of p.reseed) (blocks_of p.transfer) _;
      blocking = ap (λ (u : View). u.ledger.blocking.spot) (view_is k c w);
      compressions = ap (λ (s : Shown). s.answer.compressions) (shadow k c w) ∙ omega arith;
    }

-- ---- any calls
all_worked : (k : Keeper) (cs : List Call) → Whole k → Gen k.generator → AllWorked k cs
unfolding AllWorked
all_worked k [] w g = tt
all_worked k (c ∷ cs) w g = (worked k c w g, all_worked (told k c).keeper cs (stays_whole k c w) (stays_gen k c g))

-- WORK of every run
pub work_real : (start : List ℕ) → StartBytes start → (cs : List Call) → AllWorked (fresh start) cs
work_real start b cs = all_worked (fresh start) cs (fresh_whole start b.long) (fresh_gen start b)
