-- Steps one after another: the four of one twenty, and those that the ring has the words for.
use Rattle.std.proofs.Common.{◌≡◌, ℕ, zero, suc, ◌+◌, ◌-◌, ◌/◌, ◌%◌, ◌<◌, ◌≤◌, List, get_or, drop, refl, add-zero, add_assoc, add-suc, arith, get_or-drop}
use Rattle.secure_hash.specs.Sha1.{step, run, schedule}
use Rattle.secure_hash.proofs.Held.{Holds}

-- steps one after another
run-add : (t : ℕ) (w : List ℕ) (a b : ℕ) (s : List ℕ) → run t w (a + b) s ≡ run (t + a) (drop a w) b (run t w a s)
unfolding run
run-add t w a zero s = rw (add-zero a)
run-add t w a (suc b) s = rw (add-suc a b, run-add t w a b s, get_or-drop a w b 0, add_assoc t a b)

-- they look only at the words that they use
run_agree : (t : ℕ) (w v : List ℕ) (n : ℕ) (s : List ℕ) → ((k : ℕ) → k < n → get_or w k 0 ≡ get_or v k 0) → run t w n s ≡ run t v n s
unfolding run
run_agree t w v zero s h = refl
run_agree t w v (suc n) s h = rw (run_agree t w v n s (λ k l. h k (omega arith)), h n (omega arith))

-- four steps of the twenty p, with the words from place a on
pub four_steps : (t p a : ℕ) (w s₀ s₁ s₂ s₃ s₄ : List ℕ) → t % 4 ≡ 0 → t / 20 ≡ p
    → s₁ ≡ step p (get_or w a 0) s₀ → s₂ ≡ step p (get_or w (a + 1) 0) s₁ → s₃ ≡ step p (get_or w (a + 2) 0) s₂ → s₄ ≡ step p (get_or w (a + 3) 0) s₃
    → s₄ ≡ run t (drop a w) 4 s₀
unfolding run
four_steps t p a w s₀ s₁ s₂ s₃ s₄ m e f g h i =
    let q₀ : (t + 0) / 20 ≡ p = omega arith in
    let q₁ : (t + 1) / 20 ≡ p = omega arith in
    let q₂ : (t + 2) / 20 ≡ p = omega arith in
    let q₃ : (t + 3) / 20 ≡ p = omega arith in
    rw (i, h, g, f, q₀, q₁, q₂, q₃, get_or-drop a w 0 0, get_or-drop a w 1 0, get_or-drop a w 2 0, get_or-drop a w 3 0, add-zero a)

-- the steps from step 64 on, as far as t, and four more, with a ring that stays as it is
pub last_steps : (r s₀ s s' : List ℕ) (t : ℕ) → 64 ≤ t → t < 80 → s ≡ run 64 r (t - 64) s₀ → s' ≡ run t (drop (t % 16) r) 4 s → s' ≡ run 64 r (t + 4 - 64) s₀
last_steps r s₀ s s' t l m e g =
    let a : t + 4 - 64 ≡ t - 64 + 4 = omega arith in
    let b : 64 + (t - 64) ≡ t = omega arith in
    let c : t % 16 ≡ t - 64 = omega arith in
    rw (g, e, c, a, run-add 64 r (t - 64) 4 s₀, b)

-- the steps as far as t, and n more with the ring's words, which do not go past the ring's end
pub more_steps : (m r h s s' : List ℕ) (t n : ℕ) → t % 16 + n ≤ 16 → Holds m t r → s ≡ run 0 (schedule m 64) t h → s' ≡ run t (drop (t % 16) r) n s
    → s' ≡ run 0 (schedule m 64) (t + n) h
more_steps m r h s s' t n l held e g =
    let z : 0 + t ≡ t = omega arith in
    rw (
      g,
      run_agree t (drop (t % 16) r) (drop t (schedule m 64)) n s
          (λ k o. let q : t % 16 + k ≡ (t + k) % 16 = omega arith in rw (get_or-drop (t % 16) r k 0, get_or-drop t (schedule m 64) k 0, q) (held.words (t + k) (omega arith) (omega arith))),
      run-add 0 (schedule m 64) t n h,
      z,
      e,
    )
