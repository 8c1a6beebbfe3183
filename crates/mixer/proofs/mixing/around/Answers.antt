use native.Mathlib.Nat.{mod-lt}
use Rattle.mixer.proofs.Mixes.{masked}
use Rattle.mixer.proofs.mixing.around.Goals as goal

pub returns : goal.returns
returns c = let e = masked c.args.j c.args.n c.requires.one_of in
    (e, rw e (mod-lt c.args.j c.requires.some))
