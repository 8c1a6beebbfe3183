use mathlib.Core.Path.{◌≡◌}
use mathlib.Core.Bool.{true}
use Prim.Native.Nat.{◌*◌}
use lib.ListN.{length, drop}
use lib.Seq.{sets}
use Rattle.lab.specs.Classes.{is_hex, bytes_of}
use Rattle.lab.proofs.classes.lay_bytes.Given as goal

abbrev pub invariant-loop-i : goal.invariant-loop-i
invariant-loop-i l =
    (length l.room ≡ length l.initial.room) × (is_hex (drop (2 * l.i) l.word) ≡ true)
    × (sets l.room l.i (bytes_of (drop (2 * l.i) l.word)) ≡ sets l.initial.room 0 (bytes_of l.word))
