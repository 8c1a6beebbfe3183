use mathlib.Core.Path.{refl, ap, ◌∙◌}
use mathlib.Core.List.{List}
use Prim.Native.Nat.{ℕ}
use native.Mathlib.Omega.{arith}
use lib.Seq.{sets, take_all}
use Rattle.words.specs.Bytes.{words_bytes}
use Rattle.index.proofs.Filed.{one_word_more}
use Rattle.index.proofs.filing.lay_words.Goals as goal

pub loop-i-init : goal.loop-i-init
unfolding words_bytes
loop-i-init c = refl

pub loop-i-preserved : goal.loop-i-preserved
loop-i-preserved c = c.put_u32.ensures ∙ one_word_more c.args.room.now c.args.words.now c.args.at c.loop-i.i (omega arith) _ c.loop-i.invariant

pub returns : goal.returns
returns c = c.loop-i.invariant ∙ ap (λ (l : List ℕ). sets c.args.room.now c.args.at (words_bytes l)) (take_all c.loop-i.i c.args.words.now (omega arith))
