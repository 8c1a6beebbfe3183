-- Why something is refused, and the number that is given back: the paper's table by the names of the code.
use Rattle.std.specs.Prelude.{ℕ, Result, Ok, Err}
use Rattle.ledger.specs.Numbers.{done, would_block, unseeded, too_long, no_such_device, credit_too_high, start_not_48, repeated, mark_wrong, version_wrong, cut_short, unknown_kind, journal_too_large, no_such_class, all_repeated, index_differs, out_of_range, no_such_record, room_too_short}
use Rattle.ledger.specs.declared.refusals.Refusal.{Refusal}
use Rattle.ledger.specs.declared.refusals.Refusal.TheVariants.{WouldBlock, Unseeded, TooLong, NoSuchDevice, CreditTooHigh, StartNot48, Repeated, MarkWrong, VersionWrong, CutShort, UnknownKind, JournalTooLarge, NoSuchClass, AllRepeated, IndexDiffers, OutOfRange, NoSuchRecord, RoomTooShort}

abbrev pub number_of : Refusal → ℕ
number_of WouldBlock = would_block
number_of Unseeded = unseeded
number_of TooLong = too_long
number_of NoSuchDevice = no_such_device
number_of CreditTooHigh = credit_too_high
number_of StartNot48 = start_not_48
number_of Repeated = repeated
number_of MarkWrong = mark_wrong
number_of VersionWrong = version_wrong
number_of CutShort = cut_short
number_of UnknownKind = unknown_kind
number_of JournalTooLarge = journal_too_large
number_of NoSuchClass = no_such_class
number_of AllRepeated = all_repeated
number_of IndexDiffers = index_differs
number_of OutOfRange = out_of_range
number_of NoSuchRecord = no_such_record
number_of RoomTooShort = room_too_short

-- what came of it: done, or why not
abbrev pub number_given : {A : Type 0} → Result A Refusal → ℕ
number_given (Ok _) = done
number_given (Err why) = number_of why
