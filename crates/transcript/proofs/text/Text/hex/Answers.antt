use mathlib.Core.Path.{sym}
use native.Mathlib.Omega.{arith}
use Prim.Native.Nat.{ℕ}
use lib.ListN.{length-take}
use Rattle.transcript.specs.Text.{hex_of}
use Rattle.transcript.proofs.Laws.{length_hex}
use Rattle.transcript.proofs.Writing.{hex_more, adds_none, adds_then, adds_as}
use Rattle.transcript.proofs.text.Text.hex.Goals as goal

pub loop-byte-init : goal.loop-byte-init
unfolding hex_of
loop-byte-init c = adds_none _

pub push-requires : goal.push-requires
push-requires c = omega (arith, length_hex, length-take {A = ℕ})

pub push-requires-in-loop-byte : goal.push-requires-in-loop-byte
push-requires-in-loop-byte c = omega (arith, length_hex, length-take {A = ℕ})

pub loop-byte-preserved : goal.loop-byte-preserved
loop-byte-preserved c = adds_as (rw (c.glyph.ensures, c.glyph-in-loop-byte.ensures) (sym (hex_more c.args.bytes.now c.loop-byte.byte-index c.loop-byte-test.true))) (adds_then c.loop-byte.invariant (adds_then c.push.ensures c.push-in-loop-byte.ensures))
