use Prim.Native.Nat.{◌*◌}
use lib.ListN.{take}
use Rattle.transcript.specs.Writing.{Adds, AddsAtMost}
use Rattle.listing.specs.Listing.{spaced}
use Rattle.listing.proofs.row.row.Given as goal

abbrev pub invariant-loop-n : goal.invariant-loop-n
invariant-loop-n l = record {
  so_far : Adds l.initial.text l.text (spaced (take l.n-index l.numbers));
  at_most : AddsAtMost l.initial.text l.text (21 * l.n-index);
}
