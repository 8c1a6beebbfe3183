use mathlib.Core.Path.{◌≡◌, ap, ◌∙◌}
use mathlib.Core.List.{List}
use Prim.Native.Nat.{ℕ}
use lib.ListN.{length}
use lib.Seq.{sets}
use Rattle.journal.specs.Writing.{header_for}
use Rattle.journal.specs.Header.{start_of}
use Rattle.convert.proofs.Refusing.{taken}
use Rattle.convert.proofs.Laid.{header_fits, records_fit, outcome_laid}
use native.Mathlib.Omega.{arith}
use Rattle.convert.proofs.converting.write_out.Goals as goal

pub put_header-behind-requires : goal.put_header-behind-requires
unfolding start_of
put_header-behind-requires c = rw c.payload-start.ensures (header_fits _ _ (taken _ _ c.requires))

pub write_records-requires : goal.write_records-requires
unfolding start_of
write_records-requires c = let e : c.payload-start.result.now ≡ start_of c.args.j.now = c.payload-start.ensures in
    let m : c.put_header-behind.result ≡ length (header_for 2 (start_of c.args.j.now)) = c.put_header-behind.ensures.value ∙ ap (λ (l : List ℕ). length (header_for 2 l)) e in
    omega (arith, m, records_fit c.args.j.now (length c.args.room.now) (taken _ _ c.requires))

pub returns : goal.returns
unfolding start_of
returns c = let e : c.payload-start.result.now ≡ start_of c.args.j.now = c.payload-start.ensures in
    let m : c.put_header-behind.result ≡ length (header_for 2 (start_of c.args.j.now)) = c.put_header-behind.ensures.value ∙ ap (λ (l : List ℕ). length (header_for 2 l)) e in
    let r = c.put_header-behind.ensures.room_after ∙ ap (λ (l : List ℕ). sets c.args.room.now 0 (header_for 2 l)) e in
    let laid = outcome_laid c.args.j.now _ (taken _ _ c.requires) c.args.room.now _ _ _ _ r m c.write_records.ensures.room_after c.write_records.ensures.value in
    record { room_after = laid.0; value = laid.1 }
