use Rattle.std.proofs.Common.{◌≡◌, get_or, pos, ◌∙◌, arith, w64, to_z, of_z, rules}
use Rattle.ledger.specs.Range.{first_in_range, second_in_range}
use Rattle.reckon.proofs.Tested.{one_more}
use Rattle.reckon.proofs.range.runs_in_range.Goals as goal

pub loop-i-preserved : goal.loop-i-preserved
loop-i-preserved c =
    let l = c.loop-i in
    let a = c.args in
    -- the four differences at place i, as they are read back
    let p : to_z w64 (of_z w64 (get_or a.firsts.now l.i (pos 0))) ≡ get_or a.firsts.now l.i (pos 0) = search rules in
    let q : to_z w64 (of_z w64 (get_or a.firsts2.now l.i (pos 0))) ≡ get_or a.firsts2.now l.i (pos 0) = search rules in
    let p2 : to_z w64 (of_z w64 (get_or a.seconds.now l.i (pos 0))) ≡ get_or a.seconds.now l.i (pos 0) = search rules in
    let q2 : to_z w64 (of_z w64 (get_or a.seconds2.now l.i (pos 0))) ≡ get_or a.seconds2.now l.i (pos 0) = search rules in (
      one_more 32 first_in_range a.firsts.now a.firsts2.now l.i l.met _ _ (pos 0) (omega arith) (omega arith) (rw p at c.first_reach.ensures) (rw q at c.first_reach-in-loop-i.ensures)
          ∙ l.invariant.0,
      one_more 33 second_in_range a.seconds.now a.seconds2.now l.i l.met2 _ _ (pos 0) (omega arith) (omega arith) (rw p2 at c.second_reach.ensures) (rw q2 at c.second_reach-in-loop-i.ensures)
          ∙ l.invariant.1,
    )
