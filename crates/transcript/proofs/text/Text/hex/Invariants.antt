use lib.ListN.{take}
use Rattle.transcript.specs.Text.{hex_of}
use Rattle.transcript.specs.Writing.{Adds}
use Rattle.transcript.proofs.text.Text.hex.Given as goal

abbrev pub invariant-loop-byte : goal.invariant-loop-byte
invariant-loop-byte l = Adds l.initial.self l.self (hex_of (take l.byte-index l.bytes))
