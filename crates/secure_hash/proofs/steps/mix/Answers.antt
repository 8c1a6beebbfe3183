use Rattle.std.proofs.Common.{◌≡◌, ℕ, zero, suc, refl, arith}
use Rattle.secure_hash.specs.Sha1.{mix, ch, parity, maj}
use Rattle.secure_hash.proofs.steps.mix.Goals as goal

other : (p : ℕ) → (p ≡ 0 → ⊥) → (p ≡ 2 → ⊥) → (x y z : ℕ) → parity x y z ≡ mix p x y z
unfolding mix
other zero h k x y z = absurd (h refl)
other (suc zero) h k x y z = refl
other (suc (suc zero)) h k x y z = absurd (k refl)
other (suc (suc (suc zero))) h k x y z = refl
other (suc (suc (suc (suc p)))) h k x y z = refl

pub returns-in-0 : goal.returns-in-0
unfolding mix ch
returns-in-0 g c = rw c.in-0.is

pub returns-in-2 : goal.returns-in-2
unfolding mix maj
returns-in-2 g c = rw c.in-2.is

pub returns-in_default : goal.returns-in_default
unfolding parity
returns-in_default g c = other g.row.P (λ e. omega arith) (λ e. omega arith) _ _ _
