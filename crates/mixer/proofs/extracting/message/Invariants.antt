use mathlib.Core.Path.{◌≡◌}
use mathlib.Core.List.{map}
use lib.ListN.{length, take, drop}
use Rattle.words.specs.Bytes.{swapped}
use Rattle.mixer.proofs.extracting.message.Given as goal

abbrev pub invariant-loop-i : goal.invariant-loop-i
invariant-loop-i l = record {
  as_many : length l.m ≡ 16;
  front : take l.i l.m ≡ map swapped (take l.i (drop l.k l.ws));
}
