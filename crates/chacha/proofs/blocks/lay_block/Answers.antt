use Rattle.std.proofs.Common.{◌+◌, ◌≤◌, length, arith}
use Rattle.words.proofs.Numbers.{length-words_bytes}
use Rattle.words.proofs.Rooms.{sets-front}
use Rattle.chacha.specs.Chacha.{chacha_block, serialize}
use Rattle.chacha.proofs.Lengths.{length_block_same}
use Rattle.chacha.proofs.blocks.lay_block.Goals as goal

pub returns-then-out-ge64-clause-out_after : goal.returns-then-out-ge64-clause-out_after
unfolding chacha_block
returns-then-out-ge64-clause-out_after c = let b = chacha_block c.args.s.now in
    let fits : 0 + length (serialize b) ≤ 64 = omega (arith, length-words_bytes b, length_block_same c.args.s.now) in
    rw (c.lay_sums.ensures, c.rounds-t.ensures) (sets-front 64 c.args.out.now 0 (serialize b) fits)
