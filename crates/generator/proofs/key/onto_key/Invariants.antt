-- The bytes that are left, xored on from where the loop stands, give what all give from the start.
use Rattle.std.proofs.Common.{◌≡◌, ◌+◌, ◌*◌, ◌<◌, length}
use Rattle.words.specs.Bytes.{bytes_words}
use Rattle.keeper.specs.Generator.{xor_at, onto_key}
use Rattle.generator.proofs.key.onto_key.Given as goal

abbrev pub invariant-loop-i : goal.invariant-loop-i
invariant-loop-i l =
    let rest = l.i-iterator.iter.rest.now in
    (l.i-iterator.iter.size ≡ 4)
    × (0 < length rest → 4 * l.i-iterator.count + length rest ≡ length l.bytes)
    × (length l.g ≡ 16)
    × (xor_at l.g (4 + l.i-iterator.count) (bytes_words rest) ≡ onto_key l.bytes l.initial.g)
