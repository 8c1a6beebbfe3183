use Rattle.journal.proofs.Laying.{header_size, header_laid}
use native.Mathlib.Omega.{arith}
use Rattle.journal.proofs.writing.put_header.Goals as goal

pub lay-version_at-requires : goal.lay-version_at-requires
lay-version_at-requires c = omega (arith, header_size c.args.version c.args.start.now)

pub lay_number-start_at-requires : goal.lay_number-start_at-requires
lay_number-start_at-requires c = (omega arith, omega (arith, c.lay-version_at.auto.room, c.lay-version_at.ensures.1, header_size c.args.version c.args.start.now))

pub lay-requires : goal.lay-requires
lay-requires c = omega (arith, c.lay-version_at.auto.room, c.lay-version_at.ensures.1, c.lay_number-start_at.auto.room, c.lay_number-start_at.ensures.1, header_size c.args.version c.args.start.now)

pub returns : goal.returns
returns c = let start = c.lay.ensures in
    let version = c.lay_number-start_at.ensures in
    let mark = c.lay-version_at.ensures in
    let a = c.args in
    record { room_after = header_laid a.room.now _ _ _ a.version a.start.now (rw (mark.1, mark.0) at version.0) (omega (arith, mark.1, version.1)) start.0; value = omega (arith, mark.1, version.1, start.1, header_size a.version a.start.now) }
