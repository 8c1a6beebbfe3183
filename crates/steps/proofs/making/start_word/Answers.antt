use mathlib.Core.Path.{ap, ◌∙◌}
use mathlib.Core.List.{List, []}
use Prim.Native.Nat.{ℕ}
use native.Mathlib.Omega.{arith}
use lib.ListN.{get_or}
use Rattle.words.specs.Bytes.{le_number}
use Rattle.steps.proofs.Starting.{word_read}
use Rattle.steps.proofs.making.start_word.Goals as goal

pub returns : goal.returns
returns c =
    c.u32_of_bytes.ensures ∙ ap (λ (fours : List (List ℕ)). le_number (get_or fours c.args.i [])) c.as_chunks.ensures.front
    ∙ word_read _ c.args.start.now c.args.i (omega arith) (omega arith)
