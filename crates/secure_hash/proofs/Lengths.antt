-- A hash value of five words stays one, whatever the block.
use Rattle.std.proofs.Common.{◌≡◌, ℕ, zero, suc, List, length, sym, refl, ◌∙◌}
use Rattle.words.specs.Words.{add}
use Rattle.words.proofs.Sums.{length_zip_with}
use Rattle.secure_hash.specs.Sha1.{step, run, schedule, compressed, initial_hash}

-- a step gives five words
length-step : (p w : ℕ) (s : List ℕ) → length (step p w s) ≡ 5
unfolding step
length-step p w s = refl

-- so do any number of steps from five words
pub length_run : (t : ℕ) (w : List ℕ) (n : ℕ) (s : List ℕ) → length s ≡ 5 → length (run t w n s) ≡ 5
unfolding run
length_run t w zero s h = h
length_run t w (suc n) s h = length-step _ _ (run t w n s)

-- the next hash value
pub length-compressed : (h m : List ℕ) → length h ≡ 5 → length (compressed h m) ≡ 5
unfolding compressed
length-compressed h m e = length_zip_with add (run 0 (schedule m 64) 80 h) h (length_run 0 (schedule m 64) 80 h e ∙ sym e) ∙ e

-- the initial one
pub length_initial : length initial_hash ≡ 5
unfolding initial_hash
length_initial = refl
