use mathlib.Core.Path.{sym, ◌∙◌}
use Rattle.journal.proofs.Refused.{not_0}
use Rattle.convert.proofs.Refusing.{refused_so, written_so}
use Rattle.convert.proofs.converting.nk_convert.Goals as goal

pub write_out-requires : goal.write_out-requires
write_out-requires c = sym c.in-Ok.ensures

pub returns-in-Ok : goal.returns-in-Ok
returns-in-Ok c = let out = c.write_out.ensures in
    let so = written_so c.args.j.now c.args.room.now (sym c.in-Ok.ensures) _ out.value _ out.room_after in
    record { value = so.0; room_after = so.1 }

pub returns-in-Err : goal.returns-in-Err
returns-in-Err c = let so = refused_so c.args.j.now c.args.room.now _ (c.number.ensures ∙ c.in-Err.ensures) (λ z. not_0 _ (sym c.number.ensures ∙ z)) in
    record { value = so.0; room_after = so.1 }
