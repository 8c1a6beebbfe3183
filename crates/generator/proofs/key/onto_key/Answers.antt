use Rattle.std.proofs.Common.{◌≡◌, ◌+◌, length, ap, ◌∙◌, arith, length-append, length-set}
use Rattle.generator.proofs.ShortWords.{xor_more, xor_done}
use Rattle.generator.proofs.key.onto_key.Goals as goal

pub loop-i-preserved : goal.loop-i-preserved
loop-i-preserved c =
    let l = c.loop-i.invariant in
    let s = c.in-Some.ensures.steps in
    let four = c.in-Some.four.now in
    let left = c.next.new.self.iter.rest.now in
    let long : length c.loop-i.i-iterator.iter.rest.now ≡ length four + length left = ap length s.0.1.0 ∙ length-append four left in (
      s.0.0 ∙ l.0,
      omega (arith, long, s, l),
      length-set c.loop-i.g _ _ ∙ l.2,
      xor_more c.loop-i.g four _ left _ _ _ _ _ _ l.0 s.0.1.0 s.0.1.1 s.0.1.2 s.1 s.2 c.word_of.ensures l.3,
    )

pub returns : goal.returns
returns c = xor_done _ _ _ _ c.in-None.ensures.steps.0.1.0 c.loop-i.invariant.3
