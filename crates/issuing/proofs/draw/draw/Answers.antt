use mathlib.Core.Path.{ap₂, ◌∙◌}
use mathlib.Core.List.{List, ◌∷◌, append-nil}
use Prim.Native.Nat.{ℕ}
use Rattle.issuing.proofs.draw.draw.Goals as goal

pub returns : goal.returns
returns c = let bytes = append-nil _ ∙ c.generate.ensures.out_after in
    record { value = ap₂ (λ (b : ℕ) (x : List ℕ). b ∷ x) c.byte.ensures bytes; generator_after = c.generate.ensures.g_after }
