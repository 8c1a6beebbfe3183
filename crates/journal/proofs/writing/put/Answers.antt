use Rattle.journal.specs.Writing.{head_of, bytes_of}
use Rattle.journal.proofs.Laying.{then, bytes_size}
use native.Mathlib.Omega.{arith}
use Rattle.journal.proofs.writing.put.Goals as goal

pub lay_head-behind-requires : goal.lay_head-behind-requires
lay_head-behind-requires c = let a = c.args in
    omega (arith, bytes_size a.version a.it a.carried.now)

pub lay-requires : goal.lay-requires
lay-requires c = let a = c.args in
    omega (arith, bytes_size a.version a.it a.carried.now)

pub returns : goal.returns
unfolding bytes_of
returns c = let bytes = c.lay.ensures in
    let head = c.lay_head-behind.ensures in
    let a = c.args in
    record { room_after = then a.room.now _ _ _ _ (head_of a.version a.it) a.carried.now head.0 head.1 bytes.0; value = omega (arith, head.1, bytes.1, bytes_size a.version a.it a.carried.now) }
