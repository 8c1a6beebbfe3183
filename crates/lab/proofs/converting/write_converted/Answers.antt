use mathlib.Core.Path.{◌≡◌, sym, ap}
use mathlib.Core.List.{List}
use Prim.Native.Nat.{ℕ, ◌≤◌}
use native.Mathlib.Omega.{arith}
use lib.Seq.{length-take-le}
use Rattle.convert.specs.Converting.{converted_of}
use Rattle.convert.specs.declared.converting.Converted.{Converted}
use Rattle.convert.proofs.ConvertedJournals.{within_room}
use Rattle.lab.proofs.converting.write_converted.Goals as goal

-- what was written fits the room

fits : (j : List ℕ) (n : ℕ) (it : Converted) → it ≡ converted_of j n → it.len ≤ n
fits j n it e = omega (arith, ap (λ (x : Converted). x.len) e, within_room j n)

pub slice_bounds-room-end : goal.slice_bounds-room-end
slice_bounds-room-end g c = omega (arith, fits _ _ _ c.nk_convert-it.ensures.value)

pub slice_bounds-replace-end : goal.slice_bounds-replace-end
slice_bounds-replace-end g c = sym (length-take-le _ _ (omega (arith, fits _ _ _ c.nk_convert-it.ensures.value)))
