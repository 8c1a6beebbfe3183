use mathlib.Core.Path.{◌≡◌, refl}
use native.Mathlib.Numerals.{add-one}
use native.Mathlib.Omega.{arith}
use lib.ListN.{length}
use lib.Seq.{take-length}
use Rattle.words.specs.Bytes.{words_bytes}
use Rattle.words.proofs.Numbers.{length-words_bytes}
use Rattle.words.proofs.Rooms.{sets_word, sets_whole}
use borrow.Author.Rules.{rules}
use Rattle.mixer.proofs.extracting.hash_bytes.Goals as goal

pub loop-i-init : goal.loop-i-init
unfolding words_bytes
loop-i-init c = record { as_many = refl; laid = refl }

pub loop-i-preserved : goal.loop-i-preserved
loop-i-preserved c = record {
  as_many = search rules;
  laid = rw (add-one, c.put_u32.ensures, c.loop-i.invariant.laid) (sets_word _ c.args.h c.loop-i.i (omega arith));
}

pub returns : goal.returns
returns c = let l = c.loop-i in
    let h = c.args.h in
    let e : l.i ≡ length h = omega arith in
    rw (l.invariant.laid, e, take-length h) (sets_whole _ (words_bytes h) (omega (arith, length-words_bytes h)))
