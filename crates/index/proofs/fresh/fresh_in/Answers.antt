use mathlib.Core.Path.{sym, ◌∙◌}
use Prim.Native.Nat.{◌≤◌}
use native.Mathlib.Omega.{arith}
use lib.Seq.{length-take-le}
use Rattle.std.proofs.lemmas.Result.{IfOk-weaker}
use Rattle.journal.specs.Header.{largest}
use Rattle.index.proofs.Working.{in_room, past_room, roomy_in}
use Rattle.index.proofs.fresh.fresh_in.Goals as goal

pub returns-then-len-room : goal.returns-then-len-room
returns-then-len-room c = record { value = past_room c.args.room.now c.args.len (omega arith); roomy = tt }

pub slice_bounds-work_out-end : goal.slice_bounds-work_out-end
slice_bounds-work_out-end c = sym (length-take-le c.args.len c.args.room.now (omega arith))

pub returns : goal.returns
returns c = let told = c.work_out.ensures in
    let l : c.args.len ≤ largest = omega arith in
    record { value = told.value ∙ sym (in_room c.args.room.now c.args.len l); roomy = IfOk-weaker c.work_out.result _ _ (λ ix r. roomy_in c.args.room.now c.args.len (omega arith) r) told.roomy }
