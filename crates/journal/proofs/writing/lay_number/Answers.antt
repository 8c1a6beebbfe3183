use Rattle.std.proofs.Common.{◌≡◌, take, arith}
use Rattle.words.specs.Bytes.{le_bytes}
use Rattle.words.proofs.Numbers.{length_le_bytes}
use Rattle.journal.proofs.Laying.{lowest}
use Rattle.journal.proofs.writing.lay_number.Goals as goal

pub returns : goal.returns
returns c = let a = c.args in
    let bytes : take a.width c.bytes_of_u64.result ≡ le_bytes a.width a.x = rw c.bytes_of_u64.ensures (lowest a.width 8 a.x (omega arith)) in
    let laid = rw bytes at c.lay.ensures in
    (laid.0, omega (arith, laid.1, length_le_bytes a.width a.x))
