-- A reason to refuse has a number of its own: none is 0, which is given back where nothing was refused.
use mathlib.Core.Path.{◌≡◌}
use native.Mathlib.Omega.{arith}
use Rattle.ledger.specs.Refusals.{number_of}
use Rattle.ledger.specs.declared.refusals.Refusal.{Refusal}
use Rattle.ledger.specs.declared.refusals.Refusal.TheVariants.{WouldBlock, Unseeded, TooLong, NoSuchDevice, CreditTooHigh, StartNot48, Repeated, MarkWrong, VersionWrong, CutShort, UnknownKind, JournalTooLarge, NoSuchClass, AllRepeated, IndexDiffers, OutOfRange, NoSuchRecord, RoomTooShort}

pub not_0 : (why : Refusal) → number_of why ≡ 0 → ⊥
not_0 WouldBlock e = omega arith
not_0 Unseeded e = omega arith
not_0 TooLong e = omega arith
not_0 NoSuchDevice e = omega arith
not_0 CreditTooHigh e = omega arith
not_0 StartNot48 e = omega arith
not_0 Repeated e = omega arith
not_0 MarkWrong e = omega arith
not_0 VersionWrong e = omega arith
not_0 CutShort e = omega arith
not_0 UnknownKind e = omega arith
not_0 JournalTooLarge e = omega arith
not_0 NoSuchClass e = omega arith
not_0 AllRepeated e = omega arith
not_0 IndexDiffers e = omega arith
not_0 OutOfRange e = omega arith
not_0 NoSuchRecord e = omega arith
not_0 RoomTooShort e = omega arith
