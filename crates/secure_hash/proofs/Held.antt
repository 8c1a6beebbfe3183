-- The ring of 16 words is the message schedule: what it holds before step t, and after.
use Rattle.std.proofs.Common.{◌≡◌, ℕ, zero, suc, ◌+◌, ◌-◌, ◌%◌, ◌<◌, ◌≤◌, List, length, get_or, set, sym, ◌∙◌, ⊎_elim, add-zero, eq-or-lt_of_le, arith, length-set, get_or-set_other, get_or-set_same}
use Rattle.secure_hash.specs.Sha1.{next_word, schedule}
use Rattle.secure_hash.specs.Ring.{scheduled, turned, turns}
use Rattle.secure_hash.proofs.Schedule.{front, word}

-- W_t to W_t+15, each at its number modulo 16
pub record Holds (m : List ℕ) (t : ℕ) (r : List ℕ) : Type 0 where
  pub sixteen : length r ≡ 16
  pub words : (u : ℕ) → t ≤ u → u < t + 16 → get_or r (u % 16) 0 ≡ get_or (schedule m 64) u 0

-- the block itself holds the first
pub holds_block : (m : List ℕ) → length m ≡ 16 → Holds m 0 m
holds_block m e = record { sixteen = e; words = λ u a b. let q : u % 16 ≡ u = omega arith in rw q (sym (front m 64 u (omega arith))) }

-- W_t+16, from the ring
scheduled_word : (m r : List ℕ) (t : ℕ) → length m ≡ 16 → t < 64 → Holds m t r
    → scheduled (get_or r ((t + 13) % 16) 0) (get_or r ((t + 8) % 16) 0) (get_or r ((t + 2) % 16) 0) (get_or r (t % 16) 0) ≡ get_or (schedule m 64) (t + 16) 0
unfolding scheduled next_word
scheduled_word m r t e l h =
    let a : t + 16 - 3 ≡ t + 13 = omega arith in
    let b : t + 16 - 8 ≡ t + 8 = omega arith in
    let c : t + 16 - 14 ≡ t + 2 = omega arith in
    let d : t + 16 - 16 ≡ t = omega arith in
    rw (
      h.words (t + 13) (omega arith) (omega arith),
      h.words (t + 8) (omega arith) (omega arith),
      h.words (t + 2) (omega arith) (omega arith),
      h.words t (omega arith) (omega arith),
    )
    (sym (rw (a, b, c, d) at (word m 64 (t + 16) e (omega arith) (omega arith))))

-- one word further
holds_turned : (m r : List ℕ) (t : ℕ) → length m ≡ 16 → t < 64 → Holds m t r → Holds m (t + 1) (turned t r)
unfolding turned
holds_turned m r t e l h =
    let s : length r ≡ 16 = h.sixteen in
    record {
      sixteen = length-set r (t % 16) _ ∙ s;
      words = λ u a b.
          ⊎_elim
          (λ (eq : u ≡ t + 16). let q : (t + 16) % 16 ≡ t % 16 = omega arith in rw (eq, q) (get_or-set_same r (t % 16) _ 0 (omega arith) ∙ scheduled_word m r t e l h))
          (λ (lt : u < t + 16). let q : u % 16 ≡ t % 16 → ⊥ = λ z. omega arith in get_or-set_other r (t % 16) (u % 16) _ 0 q ∙ h.words u (omega arith) lt)
          (eq-or-lt_of_le (omega arith));
    }

-- n words further
pub holds_turns : (m r : List ℕ) (t n : ℕ) → length m ≡ 16 → t + n ≤ 64 → Holds m t r → Holds m (t + n) (turns t n r)
unfolding turns
holds_turns m r t zero e l h = rw (add-zero t) h
holds_turns m r t (suc n) e l h =
    let q : t + suc n ≡ t + n + 1 = omega arith in
    rw q (holds_turned m (turns t n r) (t + n) e (omega arith) (holds_turns m r t n e (omega arith) h))

-- the word of a turn by its places
pub turned-at : (t : ℕ) (r : List ℕ) (a b c d : ℕ) → a ≡ (t + 13) % 16 → b ≡ (t + 8) % 16 → c ≡ (t + 2) % 16 → d ≡ t % 16
    → set r d (scheduled (get_or r a 0) (get_or r b 0) (get_or r c 0) (get_or r d 0)) ≡ turned t r
unfolding turned
turned-at t r a b c d e f g h = rw (e, f, g, h)

-- four turns
pub turns_four : (t : ℕ) (r₀ r₁ r₂ r₃ r₄ : List ℕ) → r₁ ≡ turned t r₀ → r₂ ≡ turned (t + 1) r₁ → r₃ ≡ turned (t + 2) r₂ → r₄ ≡ turned (t + 3) r₃ → r₄ ≡ turns t 4 r₀
unfolding turns
turns_four t r₀ r₁ r₂ r₃ r₄ a b c d = rw (d, c, b, a, add-zero t)
