use mathlib.Core.Path.{◌≡◌, sym}
use native.Mathlib.Omega.{arith}
use Rattle.journal.specs.Header.{version_of}
use Rattle.journal.specs.Reading.{read_at}
use Rattle.journal.specs.Found.{One}
use Rattle.transcript.proofs.Writing.{adds_as}
use Rattle.lab.proofs.LookLines.{carried-short, told_one}
use Rattle.lab.proofs.looking.tell_record.Goals as goal

pub found-requires : goal.found-requires
found-requires c =
    let e : read_at (version_of c.args.j.now) c.args.j.now c.args.place ≡ One c.in-Ok-Some.it c.in-Ok-Some.next =
    sym (rw (c.in-Ok-Some.field-0-is, c.version.ensures) at c.in-Ok-Some.ensures) in
    omega (arith, carried-short _ _ _ _ _ e _ _ c.carried.ensures c.payload.ensures)

pub returns-in-Ok-Some-clause-put : goal.returns-in-Ok-Some-clause-put
returns-in-Ok-Some-clause-put c =
    let e : read_at (version_of c.args.j.now) c.args.j.now c.args.place ≡ One c.in-Ok-Some.it c.in-Ok-Some.next =
    sym (rw (c.in-Ok-Some.field-0-is, c.version.ensures) at c.in-Ok-Some.ensures) in
    adds_as (told_one _ _ _ _ e _ _ c.carried.ensures c.payload.ensures) c.found.ensures.put

pub returns-in-Ok-Some-clause-upper_bound : goal.returns-in-Ok-Some-clause-upper_bound
returns-in-Ok-Some-clause-upper_bound c =
    let e : read_at (version_of c.args.j.now) c.args.j.now c.args.place ≡ One c.in-Ok-Some.it c.in-Ok-Some.next =
    sym (rw (c.in-Ok-Some.field-0-is, c.version.ensures) at c.in-Ok-Some.ensures) in
    omega (arith, c.found.ensures.upper_bound, carried-short _ _ _ _ _ e _ _ c.carried.ensures c.payload.ensures)
