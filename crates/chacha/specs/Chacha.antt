-- The ChaCha20 block function of RFC 7539, sections 2.1 to 2.3, on a state of 16 words of 32 bits, step by step as the RFC
-- has them.
use Rattle.std.specs.Prelude.{ℕ, zero, suc, List, bit_xor, slice_index, slice_set}
use Rattle.words.specs.Words.{add, rotl, add_words}
use Rattle.words.specs.Bytes.{words_bytes}
use Rattle.chacha.specs.declared.rounds.Four.{Four}

-- a line of the quarter round, on the words at x, y and z: s[x] += s[y]; s[z] ^= s[x]; s[z] <<<= k
unfoldable pub line : ℕ → ℕ → ℕ → ℕ → List ℕ → List ℕ
line k x y z s =
    let a = add (slice_index s x) (slice_index s y) in
    slice_set (slice_set s x a) z (rotl k (bit_xor (slice_index (slice_set s x a) z) a))

-- QUARTERROUND(x, y, z, w), sections 2.1 and 2.2: four lines, the first applied first
unfoldable pub quarter_round : ℕ → ℕ → ℕ → ℕ → List ℕ → List ℕ
quarter_round x y z w s = line 7 z w y (line 8 x y w (line 12 z w y (line 16 x y w s)))

-- the same on four words by themselves (proofs/Columns.antt: it is the one of a state)
unfoldable pub quarter : ℕ → ℕ → ℕ → ℕ → Four
quarter a b c d =
    let a1 = add a b in
    let d1 = rotl 16 (bit_xor d a1) in
    let c1 = add c d1 in
    let b1 = rotl 12 (bit_xor b c1) in
    let a2 = add a1 b1 in
    let d2 = rotl 8 (bit_xor d1 a2) in
    let c2 = add c1 d2 in
    record { a = a2; b = rotl 7 (bit_xor b1 c2); c = c2; d = d2 }

-- inner_block, section 2.3: the four columns, then the four diagonals
unfoldable pub inner_block : List ℕ → List ℕ
inner_block s =
    quarter_round 3 4 9 14
    (quarter_round 2 7 8 13
    (quarter_round 1 6 11 12
    (quarter_round 0 5 10 15
    (quarter_round 3 7 11 15
    (quarter_round 2 6 10 14
    (quarter_round 1 5 9 13
    (quarter_round 0 4 8 12 s)))))))

-- n inner blocks, one after another
unfoldable pub rounds : ℕ → List ℕ → List ℕ
rounds zero s = s
rounds (suc n) s = inner_block (rounds n s)

-- the block function, section 2.3: twenty rounds, which are ten inner blocks, and the start state added
unfoldable pub chacha_block : List ℕ → List ℕ
chacha_block s = add_words (rounds 10 s) s

-- serialize, section 2.3: the words one after another, each little endian
abbrev pub serialize : List ℕ → List ℕ
serialize = words_bytes
