use mathlib.Core.Path.{◌∙◌}
use native.Mathlib.Omega.{arith}
use Rattle.index.specs.Looking.{sought}
use Rattle.index.proofs.Laid.{one_more, all_laid}
use Rattle.index.proofs.looking.find_all.Goals.{in-Ok, in-Err}
use Rattle.index.proofs.looking.find_all.Goals as goal

pub loop-i-preserved : goal.loop-i-preserved
loop-i-preserved c = let a = c.args in
    elim c.match-find.branch [
      | in-Ok w ↦ (
        rw w.answers-is (one_more (λ m. (sought a.count a.places.now a.version a.j.now m).answer) a.numbers.now a.answers.now c.loop-i.i (omega arith) _ w.in-Ok.ensures.0 _ c.loop-i.invariant.0),
        rw w.found-is (one_more (λ m. (sought a.count a.places.now a.version a.j.now m).place) a.numbers.now a.found.now c.loop-i.i (omega arith) _ w.in-Ok.ensures.1 _ c.loop-i.invariant.1),
      )
      | in-Err w ↦ (
        rw w.answers-is (one_more (λ m. (sought a.count a.places.now a.version a.j.now m).answer) a.numbers.now a.answers.now c.loop-i.i (omega arith) _ (w.number.ensures ∙ w.in-Err.ensures.0) _ c.loop-i.invariant.0),
        rw w.found-is (one_more (λ m. (sought a.count a.places.now a.version a.j.now m).place) a.numbers.now a.found.now c.loop-i.i (omega arith) _ w.in-Err.ensures.1 _ c.loop-i.invariant.1),
      )
    ]

pub returns : goal.returns
returns c = let a = c.args in
    record { answers_after = c.loop-i.invariant.0 ∙ all_laid (λ m. (sought a.count a.places.now a.version a.j.now m).answer) a.numbers.now a.answers.now c.loop-i.i (omega arith); found_after = c.loop-i.invariant.1 ∙ all_laid (λ m. (sought a.count a.places.now a.version a.j.now m).place) a.numbers.now a.found.now c.loop-i.i (omega arith) }
