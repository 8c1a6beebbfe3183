use mathlib.Core.Path.{◌≡◌, ap, ◌∙◌}
use Prim.Native.Nat.{ℕ, ◌-◌, min}
use native.Mathlib.Omega.{arith}
use lib.ListN.{length, take}
use lib.Seq.{sets, length-take-le}
use Rattle.mixer.proofs.Blocks.{laid_part}
use Rattle.mixer.proofs.extracting.put_block.Goals as goal

pub returns : goal.returns
returns c = let a = c.args in
    let n : c.min-n.result ≡ min 10 (length a.out.now - a.k) = omega (arith, c.min-n.ensures) in
    let l = length-take-le c.min-n.result a.b (omega arith) in
    rw (c.copy_from_slice.ensures.after) (laid_part a.out.now (take c.min-n.result a.b) a.k _ (omega arith) (omega arith) ∙ ap (λ (m : ℕ). sets a.out.now a.k (take m a.b)) n)
