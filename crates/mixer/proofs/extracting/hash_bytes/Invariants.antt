use mathlib.Core.Path.{◌≡◌}
use lib.ListN.{length, take}
use lib.Seq.{sets}
use Rattle.words.specs.Bytes.{words_bytes}
use Rattle.mixer.proofs.extracting.hash_bytes.Given as goal

abbrev pub invariant-loop-i : goal.invariant-loop-i
invariant-loop-i l = record {
  as_many : length l.b ≡ 20;
  laid : l.b ≡ sets l.initial.b 0 (words_bytes (take l.i l.h));
}
