-- `generator::reading::generate` meets its contract: nothing is asked for; or the key is changed from one block more; or from what the
-- last block has left.
use Rattle.std.proofs.Common.{◌≡◌, length, sym, ◌∙◌, arith, length-take-le}
use Rattle.generator.proofs.Laying.{whole_block}
use Rattle.generator.proofs.KeyBytes.{read-bytes, read_none, read-further, read-within}
use Rattle.generator.proofs.reading.generate.Goals as goal

pub returns-then-len-eq0 : goal.returns-then-len-eq0
returns-then-len-eq0 c = let a = c.args in
    let none = read_none a.out.now a.g.now c.if-len-eq0.true in
    record { out_after = none.0; g_after = none.1 }

pub slice_bounds-onto_key-end : goal.slice_bounds-onto_key-end
slice_bounds-onto_key-end c = omega (arith, length-take-le 32 c.next_block.new.room (omega arith))

pub onto_key-requires : goal.onto_key-requires
onto_key-requires c = omega (arith, length-take-le 32 c.next_block.new.room (omega arith))

pub returns-then-used-gt64 : goal.returns-then-used-gt64
returns-then-used-gt64 c = let g = c.args.g.now in
    let g16 : length g ≡ 16 = omega arith in
    let len = length c.args.out.now in
    let block = whole_block c.fill.new.g _ _ (omega arith) (omega arith) c.next_block.ensures.room_after in
    record { out_after = c.fill.ensures.out_after ∙ sym (read-bytes len g g16); g_after = read-further len g _ _ _ _ g16 (rw c.used_up-used.ensures.value at c.if-used-gt64.true) c.fill.ensures.g_after block c.next_block.ensures.g_after c.onto_key.ensures }

pub returns-else-used-gt64 : goal.returns-else-used-gt64
returns-else-used-gt64 c = let g = c.args.g.now in
    let g16 : length g ≡ 16 = omega arith in
    let len = length c.args.out.now in
    let used = c.used_up-used.ensures.value in
    record { out_after = c.fill.ensures.out_after ∙ sym (read-bytes len g g16); g_after = read-within len g _ _ _ _ _ g16 (omega arith) (rw used at c.if-used-gt64.false) c.fill.ensures.g_after c.fill.ensures.last_after used (omega arith) c.onto_key-else-used-gt64.ensures }
