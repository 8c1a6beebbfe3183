use Rattle.std.proofs.Common.{◌≡◌, ◌<◌, length, refl, add-one, arith}
use lib.Seq.{take-length}
use Rattle.words.specs.Words.{add, add_words}
use Rattle.words.specs.Bytes.{words_bytes}
use Rattle.words.proofs.Rooms.{sets_word}
use Rattle.words.proofs.Sums.{length_zip_with, get_or_zip_with}
use Rattle.chacha.proofs.blocks.lay_sums.Goals as goal

pub loop-k-init : goal.loop-k-init
unfolding words_bytes
loop-k-init c = refl

pub loop-k-preserved : goal.loop-k-preserved
loop-k-preserved c = let l = c.loop-k in
    let a = c.args in
    let two : length a.t ≡ length a.s.now = omega arith in
    let n : l.k < length (add_words a.t a.s.now) = omega (arith, length_zip_with add a.t a.s.now two) in
    let e = get_or_zip_with add l.k a.t a.s.now (omega arith) (omega arith) in
    rw (add-one, c.put_u32.ensures, l.invariant, ← e) (sets_word a.out.now (add_words a.t a.s.now) l.k n)

pub returns : goal.returns
returns c = let l = c.loop-k in
    let a = c.args in
    let two : length a.t ≡ length a.s.now = omega arith in
    let e : l.k ≡ length (add_words a.t a.s.now) = omega (arith, length_zip_with add a.t a.s.now two) in
    rw (l.invariant, e, take-length (add_words a.t a.s.now))
