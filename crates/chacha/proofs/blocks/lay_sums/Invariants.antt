use Rattle.std.proofs.Common.{◌≡◌, take}
use lib.Seq.{sets}
use Rattle.words.specs.Words.{add_words}
use Rattle.words.specs.Bytes.{words_bytes}
use Rattle.chacha.proofs.blocks.lay_sums.Given as goal

abbrev pub invariant-loop-k : goal.invariant-loop-k
invariant-loop-k l = l.out ≡ sets l.initial.out 0 (words_bytes (take l.k (add_words l.t l.s)))
