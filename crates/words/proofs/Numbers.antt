-- Laws of numbers laid out as bytes: lengths, the way there and back, runs of bytes and of words.
use Rattle.std.proofs.Common.{◌≡◌, ℕ, zero, suc, ◌+◌, ◌*◌, ◌/◌, ◌%◌, ◌^◌, ◌<◌, ◌≤◌, List, [], ◌∷◌, ◌++◌, length, get_or, take, sym, refl, ap, ◌∙◌, append_assoc, append-nil, mul_assoc, arith, length-append, take-suc, pow-add, shr_lt}
use Rattle.words.specs.Bytes.{le_bytes, le_number, words_bytes, bytes_words}

pub length_le_bytes : (n x : ℕ) → length (le_bytes n x) ≡ n
unfolding le_bytes
length_le_bytes zero x = refl
length_le_bytes (suc n) x = ap suc (length_le_bytes n (x / 2 ^ 8))

pub length-words_bytes : (ws : List ℕ) → length (words_bytes ws) ≡ 4 * length ws
unfolding words_bytes
length-words_bytes [] = refl
length-words_bytes (w ∷ ws) =
    simp length-append (omega (arith, length_le_bytes 4 w, length-words_bytes ws))

pub words_bytes-append : (a b : List ℕ) → words_bytes (a ++ b) ≡ words_bytes a ++ words_bytes b
unfolding words_bytes
words_bytes-append [] b = refl
words_bytes-append (w ∷ a) b = rw (words_bytes-append a b) (sym (append_assoc (le_bytes 4 w) (words_bytes a) (words_bytes b)))

-- one more word
pub words_bytes-suc : (ws : List ℕ) (i : ℕ) → i < length ws → words_bytes (take (suc i) ws) ≡ words_bytes (take i ws) ++ le_bytes 4 (get_or ws i 0)
unfolding words_bytes
words_bytes-suc ws i h =
    rw (take-suc ws i 0 h, words_bytes-append (take i ws) (get_or ws i 0 ∷ []), append-nil (le_bytes 4 (get_or ws i 0)))

-- a number is what its bytes make, if it has no more
pub number_bytes_lem : (n x : ℕ) → x < 2 ^ (8 * n) → le_number (le_bytes n x) ≡ x
unfolding le_bytes le_number
number_bytes_lem zero x h = omega arith
number_bytes_lem (suc n) x h =
    let e : 8 * suc n ≡ 8 * n + 8 = omega arith in
    let k : x < 2 ^ (8 * n + 8) = rw e at h in
    let r : le_number (le_bytes n (x / 2 ^ 8)) ≡ x / 2 ^ 8 = number_bytes_lem n (x / 2 ^ 8) (shr_lt (8 * n) 8 k) in
    omega arith

-- bytes are those of the number that they make
pub bytes_number : (bs : List ℕ) → ((i : ℕ) → i < length bs → get_or bs i 0 < 2 ^ 8) → le_bytes (length bs) (le_number bs) ≡ bs
unfolding le_bytes le_number
bytes_number [] h = refl
bytes_number (b ∷ bs) h =
    let k : b < 2 ^ 8 = h 0 (omega arith) in
    let r : le_bytes (length bs) (le_number bs) ≡ bs = bytes_number bs (λ i l. h (suc i) (omega arith)) in
    let m : (b + 2 ^ 8 * le_number bs) % 2 ^ 8 ≡ b = omega arith in
    let d : (b + 2 ^ 8 * le_number bs) / 2 ^ 8 ≡ le_number bs = omega arith in
    rw (m, d, r)

-- bytes in two runs: the second counts in whole turns of the first
pub le_number-append : (a b : List ℕ) → le_number (a ++ b) ≡ le_number a + 2 ^ (8 * length a) * le_number b
unfolding le_number
le_number-append [] b = omega arith
le_number-append (x ∷ a) b =
    let e : 8 * suc (length a) ≡ 8 + 8 * length a = omega arith in
    let p : 2 ^ (8 + 8 * length a) * le_number b ≡ 256 * (2 ^ (8 * length a) * le_number b) = ap (λ (k : ℕ). k * le_number b) (pow-add 2 8 (8 * length a)) ∙ mul_assoc 256 (2 ^ (8 * length a)) (le_number b) in
    rw (e, p) (omega (arith, le_number-append a b))

-- bytes make a word for each four of them, and one more for what is left over
pub length-bytes_words : (bs : List ℕ) → 4 * length (bytes_words bs) ≤ length bs + 3
unfolding bytes_words
length-bytes_words [] = omega arith
length-bytes_words (a ∷ []) = omega arith
length-bytes_words (a ∷ b ∷ []) = omega arith
length-bytes_words (a ∷ b ∷ c ∷ []) = omega arith
length-bytes_words (a ∷ b ∷ c ∷ d ∷ bs) = omega (arith, length-bytes_words bs)

-- no byte is left out
bytes_words_reach : (bs : List ℕ) → length bs ≤ 4 * length (bytes_words bs)
unfolding bytes_words
bytes_words_reach [] = omega arith
bytes_words_reach (a ∷ []) = omega arith
bytes_words_reach (a ∷ b ∷ []) = omega arith
bytes_words_reach (a ∷ b ∷ c ∷ []) = omega arith
bytes_words_reach (a ∷ b ∷ c ∷ d ∷ bs) = omega (arith, bytes_words_reach bs)

-- whole words: four bytes each
pub length-bytes_words_whole : (bs : List ℕ) (n : ℕ) → length bs ≡ 4 * n → length (bytes_words bs) ≡ n
length-bytes_words_whole bs n e = omega (arith, length-bytes_words bs, bytes_words_reach bs)

-- words made of bytes are words of 32 bits
pub bytes_words_lt : (bs : List ℕ) → ((i : ℕ) → get_or bs i 0 < 2 ^ 8) → (j : ℕ) → get_or (bytes_words bs) j 0 < 2 ^ 32
unfolding bytes_words le_number
bytes_words_lt [] h j = omega arith
bytes_words_lt (a ∷ []) h zero = omega (arith, h 0)
bytes_words_lt (a ∷ []) h (suc j) = omega arith
bytes_words_lt (a ∷ b ∷ []) h zero = omega (arith, h 0, h 1)
bytes_words_lt (a ∷ b ∷ []) h (suc j) = omega arith
bytes_words_lt (a ∷ b ∷ c ∷ []) h zero = omega (arith, h 0, h 1, h 2)
bytes_words_lt (a ∷ b ∷ c ∷ []) h (suc j) = omega arith
bytes_words_lt (a ∷ b ∷ c ∷ d ∷ bs) h zero = omega (arith, h 0, h 1, h 2, h 3)
bytes_words_lt (a ∷ b ∷ c ∷ d ∷ bs) h (suc j) = bytes_words_lt bs (λ i. h (suc (suc (suc (suc i))))) j
