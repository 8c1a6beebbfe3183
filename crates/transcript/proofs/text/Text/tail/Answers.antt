use mathlib.Core.Path.{◌≡◌, sym}
use native.Mathlib.Omega.{arith}
use lib.ListN.{length}
use Rattle.std.proofs.lemmas.Grind.{common_steps}
use Rattle.transcript.proofs.Laws.{tail_none, tail_some, length_hex}
use Rattle.transcript.proofs.Writing.{adds_none, adds_then, adds_as}
use Rattle.transcript.proofs.text.Text.tail.Goals as goal

pub returns-then-not-is_empty : goal.returns-then-not-is_empty
returns-then-not-is_empty c =
    let some : length c.args.bytes.now ≡ 0 → ⊥ = grind (arith, common_steps) in
    record {
      put = adds_as (sym (tail_some c.args.bytes.now some)) (adds_then c.push.ensures c.hex.ensures);
      upper_bound = omega (arith, c.push.ensures.put.place, c.hex.ensures.put.place, length_hex c.args.bytes.now);
    }

pub returns-else-not-is_empty-clause-put : goal.returns-else-not-is_empty-clause-put
returns-else-not-is_empty-clause-put c =
    let none : length c.args.bytes.now ≡ 0 = grind (arith, common_steps) in
    adds_as (sym (tail_none c.args.bytes.now none)) (adds_none _)
