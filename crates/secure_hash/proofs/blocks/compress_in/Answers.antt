use Rattle.std.proofs.Common.{◌≡◌, ℕ, ◌-◌, List, refl, ap, ◌∙◌, arith, rules}
use mathlib.Core.List.{zip_with}
use Rattle.words.specs.Words.{add}
use Rattle.secure_hash.specs.Sha1.{run, compressed}
use Rattle.secure_hash.proofs.Held.{holds_block, holds_turns}
use Rattle.secure_hash.proofs.Fours.{more_steps, last_steps}
use Rattle.secure_hash.proofs.blocks.compress_in.Goals as goal

-- before step t the ring holds W_t to W_t+15, and the steps before it are done

-- from step 64 on the ring stays

pub loop-t-init : goal.loop-t-init
unfolding run
loop-t-init c = (search rules, search rules, search rules, holds_block _ (omega arith), refl)

pub loop-t-preserved : goal.loop-t-preserved
loop-t-preserved c = let t = c.loop-t.t in (
  search rules,
  search rules,
  search rules,
  rw c.next_four.ensures (holds_turns c.args.w.now c.loop-t.w t 4 (omega arith) (omega arith) c.loop-t.invariant.3),
  more_steps c.args.w.now c.loop-t.w c.args.h c.loop-t.s _ t 4 (omega arith) c.loop-t.invariant.3 c.loop-t.invariant.4 c.four-r.ensures,
)

pub loop-t-2-init : goal.loop-t-2-init
unfolding run
loop-t-2-init c = (search rules, search rules, search rules, refl)

pub loop-t-2-preserved : goal.loop-t-2-preserved
loop-t-2-preserved c = (search rules, search rules, search rules, last_steps _ _ _ _ c.loop-t-2.t (omega arith) (omega arith) c.loop-t-2.invariant.3 c.of_twenty-r.ensures)

pub returns : goal.returns
unfolding compressed
returns c = let e : c.loop-t.t ≡ 64 = omega arith in
    let d : c.loop-t-2.t - 64 ≡ 16 = omega arith in
    c.add_words.ensures
    ∙ ap (λ (x : List ℕ). zip_with add x c.args.h)
    (more_steps c.args.w.now c.loop-t.w c.args.h c.loop-t.s _ 64 16 (omega arith) (rw e at c.loop-t.invariant.3) (rw e at c.loop-t.invariant.4) (rw d at c.loop-t-2.invariant.3))
