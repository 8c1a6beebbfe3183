-- `generator::reading::fill` meets its contract: before block n the room has the bytes of n blocks, and the generator has counted them.
use Rattle.std.proofs.Common.{◌≡◌, ◌-◌, ◌/◌, length, refl, arith}
use Rattle.generator.proofs.Laying.{filled_none, filled_more, filled_all}
use Rattle.generator.proofs.reading.fill.Goals as goal

pub loop-n-init : goal.loop-n-init
loop-n-init c = (refl, omega arith, filled_none _ _)

pub loop-n-preserved : goal.loop-n-preserved
loop-n-preserved c = (omega arith, omega arith, filled_more _ _ _ c.loop-n.g _ _ _ (omega arith) c.next_block.ensures.g_after c.next_block.ensures.room_after c.loop-n.invariant.2)

pub returns : goal.returns
returns c =
    let e : c.loop-n.n ≡ (length c.args.out.now - 1) / 64 = omega arith in
    let all = filled_all _ _ _ c.loop-n.g _ _ c.args.last.now _ _ (omega arith) (omega arith) (omega arith) (omega arith) c.next_block-2.ensures.g_after c.next_block-2.ensures.room_after c.lay_whole.ensures (rw e at c.loop-n.invariant.2) in
    record { out_after = all.0; g_after = all.1.0; last_after = all.1.1 }
