-- What a theorem about calls needs of a pool: how far its place moves, that its words stay as many, and how many bytes and
-- compressions an extraction gives.
use mathlib.Core.Path.{◌≡◌, refl, sym, ap, ◌∙◌}
use mathlib.Core.List.{List, [], ◌∷◌, map}
use Prim.Native.Nat.{ℕ, zero, suc, ◌*◌}
use native.Mathlib.Omega.{arith}
use native.Mathlib.Nat.{mul-zero, mul-suc, add_comm}
use lib.ListN.{length, take, drop, length-append, length-set}
use lib.Seq.{length-take-le}
use Rattle.words.specs.Bytes.{swapped, words_bytes}
use Rattle.words.proofs.Numbers.{length-words_bytes}
use Rattle.secure_hash.specs.Sha1.{initial_hash, compressed}
use Rattle.secure_hash.proofs.Lengths.{length-compressed, length_initial}
use Rattle.ledger.specs.Shapes.{Shape, rounds}
use Rattle.ledger.specs.Places.{moved, blocks_of, moved_blocks, extracted_from, costs}
use Rattle.ledger.specs.declared.Spot.{Spot}
use Rattle.pool.specs.Mixing.{Pool, mixed_words, mix_byte, mix}
use Rattle.pool.specs.Extracting.{hashed, pool_hash, folded, Extract, extract_blocks, extract}

-- ---- mixing
-- the place moves by the count of bytes
mix-spot : (sh : Shape) (p : Pool) (bs : List ℕ) → (mix sh p bs).spot ≡ moved sh (length bs) p.spot
unfolding mix moved
mix-spot sh p [] = refl
mix-spot sh p (b ∷ bs) = mix-spot sh (mix_byte sh p b) bs

-- one byte keeps the count of words
mixed_length : (sh : Shape) (i r b : ℕ) (ws : List ℕ) → length (mixed_words sh i r b ws) ≡ length ws
unfolding mixed_words
mixed_length sh i r b ws = length-set ws i _

-- so do bytes
mix-length : (sh : Shape) (p : Pool) (bs : List ℕ) → length (mix sh p bs).words ≡ length p.words
unfolding mix
mix-length sh p [] = refl
mix-length sh p (b ∷ bs) = mix-length sh (mix_byte sh p b) bs ∙ mixed_length sh _ _ b p.words

-- ---- the hash of a pool
-- compressions keep five words
hashed_length : (n : ℕ) (h ws : List ℕ) → length h ≡ 5 → length (hashed n h ws).words ≡ 5
unfolding hashed
hashed_length zero h ws e = e
hashed_length (suc n) h ws e = hashed_length n (compressed h (map swapped (take 16 ws))) (drop 16 ws) (length-compressed h _ e)

-- and are counted one by one
hashed-runs : (n : ℕ) (h ws : List ℕ) → (hashed n h ws).runs ≡ n
unfolding hashed
hashed-runs zero h ws = refl
hashed-runs (suc n) h ws = ap suc (hashed-runs n _ _)

-- a hash has five words
hash_length : (sh : Shape) (p : Pool) → length (pool_hash sh p).words ≡ 5
unfolding pool_hash
hash_length sh p = hashed_length (rounds sh) initial_hash p.words length_initial

-- and took a compression for each 64 bytes of the pool
hash_runs : (sh : Shape) (p : Pool) → (pool_hash sh p).runs ≡ rounds sh
unfolding pool_hash
hash_runs sh p = hashed-runs (rounds sh) initial_hash p.words

-- they are mixed back as 20 bytes
hash_bytes : (sh : Shape) (p : Pool) → length (words_bytes (pool_hash sh p).words) ≡ 20
hash_bytes sh p = length-words_bytes (pool_hash sh p).words ∙ ap (λ (n : ℕ). 4 * n) (hash_length sh p)

-- the first ten bytes of three words
ten : (a b c : ℕ) → length (take 10 (words_bytes (a ∷ b ∷ c ∷ []))) ≡ 10
ten a b c = length-take-le 10 (words_bytes (a ∷ b ∷ c ∷ [])) (omega (arith, length-words_bytes (a ∷ b ∷ c ∷ [])))

-- a hash is folded to ten bytes
pub folded-length : (h : List ℕ) → length (folded h) ≡ 10
unfolding folded
folded-length h = ten _ _ _

-- ---- blocks of an extraction
-- each moves the place by 20 bytes
blocks_spot : (sh : Shape) (n : ℕ) (p : Pool) → (extract_blocks sh n p).pool.spot ≡ moved_blocks sh n p.spot
unfolding extract_blocks moved_blocks
blocks_spot sh zero p = refl
blocks_spot sh (suc n) p =
    let bs = words_bytes (pool_hash sh p).words in
    let back : (mix sh p bs).spot ≡ moved sh 20 p.spot = mix-spot sh p bs ∙ ap (λ (m : ℕ). moved sh m p.spot) (hash_bytes sh p) in
    blocks_spot sh n (mix sh p bs) ∙ ap (moved_blocks sh n) back

-- they keep the count of words
blocks_words : (sh : Shape) (n : ℕ) (p : Pool) → length (extract_blocks sh n p).pool.words ≡ length p.words
unfolding extract_blocks
blocks_words sh zero p = refl
blocks_words sh (suc n) p =
    let bs = words_bytes (pool_hash sh p).words in
    blocks_words sh n (mix sh p bs) ∙ mix-length sh p bs

-- ten bytes for each
blocks_length : (sh : Shape) (n : ℕ) (p : Pool) → length (extract_blocks sh n p).bytes ≡ 10 * n
unfolding extract_blocks
blocks_length sh zero p = refl
blocks_length sh (suc n) p =
    simp length-append (omega (arith, folded-length (pool_hash sh p).words, blocks_length sh n (mix sh p (words_bytes (pool_hash sh p).words))))

-- a whole pool's compressions for each
blocks_runs : (sh : Shape) (n : ℕ) (p : Pool) → (extract_blocks sh n p).runs ≡ rounds sh * n
unfolding extract_blocks
blocks_runs sh zero p = sym (mul-zero (rounds sh))
blocks_runs sh (suc n) p = rw (hash_runs sh p, blocks_runs sh n) (add_comm (rounds sh) (rounds sh * n) ∙ sym (mul-suc (rounds sh) n))

-- no bytes, and the pool as it was
abbrev pub nothing : Pool → Extract
nothing p = record { bytes = []; pool = p; runs = 0 }

-- ---- what a theorem about calls asks of a pool: a way to mix bytes in, a way to take bytes out, and what is public of both, how they move the
-- place and what they cost. A pool of another kind is another value of this record, and no theorem above is proved again for it.
pub record LawsOf (mixes : Pool → List ℕ → Pool) (takes : ℕ → Pool → Extract) (moves moves_out : ℕ → Spot → Spot) (cost : ℕ → ℕ) : Type 0 where
  -- bytes mixed in move the place by their count, and keep the count of words; none do nothing
  pub mix-spot : (p : Pool) (bs : List ℕ) → (mixes p bs).spot ≡ moves (length bs) p.spot
  pub mix-words : (p : Pool) (bs : List ℕ) → length (mixes p bs).words ≡ length p.words
  pub mix_none : (p : Pool) → mixes p [] ≡ p
  -- k bytes taken out are k, move the place, keep the count of words and are paid in compressions; to take none is to do nothing
  pub take-length : (k : ℕ) (p : Pool) → length (takes k p).bytes ≡ k
  pub take-spot : (k : ℕ) (p : Pool) → (takes k p).pool.spot ≡ moves_out k p.spot
  pub take_words : (k : ℕ) (p : Pool) → length (takes k p).pool.words ≡ length p.words
  pub take_runs : (k : ℕ) (p : Pool) → (takes k p).runs ≡ cost k
  pub take_none : (p : Pool) → takes 0 p ≡ nothing p

-- those of the pools of specs/, for every shape
abbrev pub Laws : Shape → Type 0
Laws sh = LawsOf (mix sh) (extract sh) (moved sh) (extracted_from sh) (costs sh)

pub laws : (sh : Shape) → Laws sh
unfolding mix extract_blocks extracted_from costs
laws sh =
    record {
      mix-spot = mix-spot sh;
      mix-words = mix-length sh;
      mix_none = λ p. refl;
      take-length = λ k p. length-take-le k (extract_blocks sh (blocks_of k) p).bytes (omega (arith, blocks_length sh (blocks_of k) p));
      take-spot = λ k p. blocks_spot sh (blocks_of k) p;
      take_words = λ k p. blocks_words sh (blocks_of k) p;
      take_runs = λ k p. blocks_runs sh (blocks_of k) p;
      take_none = λ p. refl;
    }
