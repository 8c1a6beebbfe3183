-- Journals computed by the checker: the paper's example, and one for each number that can end a journal.
use mathlib.Core.Path.{◌≡◌, refl, sym, ap, ◌∙◌}
use mathlib.Core.List.{List, [], ◌∷◌, ◌++◌, map}
use Prim.Native.Nat.{ℕ, ◌<◌}
use native.Mathlib.Omega.{arith}
use lib.ListN.{length, replicate}
use Rattle.ledger.specs.Choice.{pick}
use Rattle.ledger.specs.Sizes.{devices, start_bytes}
use Rattle.words.specs.Bytes.{le_number, le_bytes}
use Rattle.journal.specs.Layout.{device_bytes, devices_in, widths, sum, kind_of, fields_of, record_of, carries}
use Rattle.journal.specs.Reading.{fields_in, carrying, opened, front, read_at}
use Rattle.journal.specs.Writing.{laid, head_of, bytes_of, carried_by}
use Rattle.journal.specs.Header.{largest, heading, known, refusal_within, header_within, header_of}
use Rattle.journal.specs.Walking.{Entry, Walk, walk_from, walk, behind, walk_of, ending_of}
use Rattle.journal.specs.Cutting.{up_to, reached, boundary, telling, enough, cut_number, cut_walk, walk_within}
use Rattle.journal.specs.declared.records.Record.{Record}
use Rattle.journal.specs.declared.records.Record.TheVariants.{Event, Interrupt, Write, Seed, Read, BlockingRead}
use Rattle.journal.specs.Found.{One}
use Rattle.journal.proofs.GoodHeader.{header_number, too_large as Header·too-large}
use Rattle.journal.proofs.Walks.{bad_walk}

-- the records alone
abbrev records_in : List Entry → List Record
records_in es = map (λ (e : Entry). e.what) es

-- a good header with a start of zero bytes
opening : List ℕ
opening = (78 ∷ 75 ∷ 74 ∷ 1 ∷ 0 ∷ []) ++ replicate start_bytes 0

-- the paper's example: kind 5, now 0, length 4
paper : List ℕ
paper = opening ++ (5 ∷ 0 ∷ 0 ∷ 0 ∷ 0 ∷ 4 ∷ 0 ∷ [])

paper_read : read_at 1 paper 53 ≡ One (Read 0 4) 60
unfolding paper opening read_at front opened carrying fields_in widths device_bytes sum record_of carries le_number pick
paper_read = refl

paper_records : records_in (walk_of paper).entries ≡ Read 0 4 ∷ []
unfolding paper opening walk_of behind walk header_of header_within refusal_within known walk_from read_at front opened carrying fields_in widths device_bytes sum record_of carries le_number pick
paper_records = refl

paper_ends : ending_of paper ≡ 0
unfolding paper opening walk_of behind walk header_of header_within refusal_within known walk_from read_at front opened carrying fields_in widths device_bytes sum record_of carries le_number pick
paper_ends = refl

-- a record of each kind, no two bytes of which are the same within a record: every field is where it is and not another
kinds : List ℕ
kinds =
    opening
    ++ (1 ∷ 1 ∷ 2 ∷ 3 ∷ 4 ∷ 5 ∷ 6 ∷ 7 ∷ 8 ∷ 9 ∷ 10 ∷ 11 ∷ 12 ∷ 13 ∷ 14 ∷ 15 ∷ 16 ∷ 17
    ∷ 2 ∷ 18 ∷ 19 ∷ 20 ∷ 21 ∷ 22 ∷ 23 ∷ 24 ∷ 25 ∷ 26 ∷ 27 ∷ 28 ∷ 29 ∷ 30 ∷ 31 ∷ 32 ∷ 33 ∷ 34 ∷ 35 ∷ 36 ∷ 37 ∷ 38 ∷ 39 ∷ 40 ∷ 41
    ∷ 3 ∷ 42 ∷ 43 ∷ 44 ∷ 45 ∷ 2 ∷ 0 ∷ 46 ∷ 47
    ∷ 4 ∷ 48 ∷ 49 ∷ 50 ∷ 51 ∷ 1 ∷ 0 ∷ 52 ∷ 53 ∷ 54 ∷ 55 ∷ 56
    ∷ 5 ∷ 57 ∷ 58 ∷ 59 ∷ 60 ∷ 61 ∷ 62
    ∷ 6 ∷ 63 ∷ 64 ∷ 65 ∷ 66 ∷ 67 ∷ 68 ∷ [])

each_kind : records_in (walk_of kinds).entries
    ≡ Event 0x04030201 5 0x0d0c0b0a09080706 0x11100f0e ∷ Interrupt 0x15141312 0x19181716 0x21201f1e1d1c1b1a 0x2928272625242322
    ∷ Write 0x2d2c2b2a 2 ∷ Seed 0x33323130 1 0x37363534 ∷ Read 0x3c3b3a39 0x3e3d ∷ BlockingRead 0x4241403f 0x4443 ∷ []
unfolding kinds opening walk_of behind walk header_of header_within refusal_within known walk_from read_at front opened carrying fields_in widths device_bytes sum record_of carries le_number pick
each_kind = refl

-- and so are the bytes that a write and a seed carry
each_carried : map (λ (e : Entry). carried_by kinds e.what e.next) (walk_of kinds).entries
    ≡ [] ∷ [] ∷ (46 ∷ 47 ∷ []) ∷ (56 ∷ []) ∷ [] ∷ [] ∷ []
unfolding kinds opening carried_by walk_of behind walk header_of header_within refusal_within known walk_from read_at front opened carrying fields_in widths device_bytes sum record_of carries le_number pick
each_carried = refl

-- ---- the numbers as they are printed
-- 12: any bytes, if there are more than 61,440 of them
too_large : (j : List ℕ) → largest < length j → ending_of j ≡ 12
too_large j h =
    let n : (header_of j).number ≡ 12 = header_number j ∙ sym (Header·too-large (length j) j h) in
    ap (λ (w : Walk). w.number) (bad_walk j (λ z. omega (arith, n, z))) ∙ n

-- 8: no bytes; a last letter that is not ours, although no version follows it
no_mark : ending_of [] ≡ 8
unfolding walk_of behind header_of header_within refusal_within known le_number pick
no_mark = refl

mark_wrong_lem : ending_of (78 ∷ 75 ∷ 75 ∷ []) ≡ 8
unfolding walk_of behind header_of header_within refusal_within known le_number pick
mark_wrong_lem = refl

-- 10: half a version
version_missing : ending_of (78 ∷ 75 ∷ 74 ∷ 1 ∷ []) ≡ 10
unfolding walk_of behind header_of header_within refusal_within known le_number pick
version_missing = refl

-- 9: version 3, although no start follows it; 0; and 0x0201, whose bytes are those of 1 and 2
version_wrong_lem : ending_of (78 ∷ 75 ∷ 74 ∷ 3 ∷ 0 ∷ []) ≡ 9
unfolding walk_of behind header_of header_within refusal_within known le_number pick
version_wrong_lem = refl

version_0 : ending_of (78 ∷ 75 ∷ 74 ∷ 0 ∷ 0 ∷ []) ≡ 9
unfolding walk_of behind header_of header_within refusal_within known le_number pick
version_0 = refl

version_of_both : ending_of (78 ∷ 75 ∷ 74 ∷ 1 ∷ 2 ∷ []) ≡ 9
unfolding walk_of behind header_of header_within refusal_within known le_number pick
version_of_both = refl

-- 10: 47 start bytes
start_missing : ending_of ((78 ∷ 75 ∷ 74 ∷ 1 ∷ 0 ∷ []) ++ replicate 47 0) ≡ 10
unfolding walk_of behind header_of header_within refusal_within known le_number pick
start_missing = refl

-- 10: a seed of no bytes, whose credit has three bytes of four
credit_cut : ending_of (opening ++ (4 ∷ 0 ∷ 0 ∷ 0 ∷ 0 ∷ 0 ∷ 0 ∷ 1 ∷ 0 ∷ 0 ∷ [])) ≡ 10
unfolding opening walk_of behind walk header_of header_within refusal_within known walk_from read_at front opened carrying fields_in widths device_bytes sum record_of carries le_number pick
credit_cut = refl

-- 10: a write of two bytes that has one
bytes_cut : ending_of (opening ++ (3 ∷ 0 ∷ 0 ∷ 0 ∷ 0 ∷ 2 ∷ 0 ∷ 9 ∷ [])) ≡ 10
unfolding opening walk_of behind walk header_of header_within refusal_within known walk_from read_at front opened carrying fields_in widths device_bytes sum record_of carries le_number pick
bytes_cut = refl

-- 11: kinds 0 and 7
kind_0 : ending_of (opening ++ (0 ∷ [])) ≡ 11
unfolding opening walk_of behind walk header_of header_within refusal_within known walk_from read_at front opened carrying fields_in widths device_bytes sum record_of carries le_number pick
kind_0 = refl

kind_7 : ending_of (opening ++ (7 ∷ [])) ≡ 11
unfolding opening walk_of behind walk header_of header_within refusal_within known walk_from read_at front opened carrying fields_in widths device_bytes sum record_of carries le_number pick
kind_7 = refl

-- 3: a write of 4,097 bytes, of which none is there
too_long : ending_of (opening ++ (3 ∷ 0 ∷ 0 ∷ 0 ∷ 0 ∷ 1 ∷ 16 ∷ [])) ≡ 3
unfolding opening walk_of behind walk header_of header_within refusal_within known walk_from read_at front opened carrying fields_in widths device_bytes sum record_of carries le_number pick
too_long = refl

-- 0: a blocking read of 65,535 bytes is a record like any other
long_read : records_in (walk_of (opening ++ (6 ∷ 1 ∷ 0 ∷ 0 ∷ 0 ∷ 255 ∷ 255 ∷ []))).entries ≡ BlockingRead 1 65535 ∷ []
unfolding opening walk_of behind walk header_of header_within refusal_within known walk_from read_at front opened carrying fields_in widths device_bytes sum record_of carries le_number pick
long_read = refl

-- the records before the end are kept: a write of one byte, and an unknown kind behind it
kept : records_in (walk_of (opening ++ (3 ∷ 0 ∷ 0 ∷ 0 ∷ 0 ∷ 1 ∷ 0 ∷ 9 ∷ 7 ∷ []))).entries ≡ Write 0 1 ∷ []
unfolding opening walk_of behind walk header_of header_within refusal_within known walk_from read_at front opened carrying fields_in widths device_bytes sum record_of carries le_number pick
kept = refl

-- ---- cut at a byte: a write of one byte and an unknown kind, 62 bytes in all
torn : List ℕ
torn = opening ++ (3 ∷ 0 ∷ 0 ∷ 0 ∷ 0 ∷ 1 ∷ 0 ∷ 9 ∷ 7 ∷ [])

-- 8 and 10 in the header; 0 right behind it and behind the write; 10 within the write; 11 with the unknown kind
torn_at : map (λ n. (walk_within n torn).number) (2 ∷ 4 ∷ 52 ∷ 53 ∷ 54 ∷ 60 ∷ 61 ∷ 62 ∷ [])
    ≡ 8 ∷ 10 ∷ 10 ∷ 0 ∷ 10 ∷ 10 ∷ 0 ∷ 11 ∷ []
unfolding torn opening walk_within behind cut_walk cut_number enough telling up_to reached boundary walk header_within refusal_within known walk_from read_at front opened carrying fields_in widths device_bytes sum record_of carries le_number pick
torn_at = refl

-- the write is there exactly if its last byte is
torn_kept : map (λ n. records_in (walk_within n torn).entries) (60 ∷ 61 ∷ []) ≡ [] ∷ (Write 0 1 ∷ []) ∷ []
unfolding torn opening walk_within behind cut_walk cut_number enough telling up_to reached boundary walk header_within refusal_within known walk_from read_at front opened carrying fields_in widths device_bytes sum record_of carries le_number pick
torn_kept = refl

-- a write of 4,097 bytes is told by its seven bytes, and not by six
torn_long : map (λ n. (walk_within n (opening ++ (3 ∷ 0 ∷ 0 ∷ 0 ∷ 0 ∷ 1 ∷ 16 ∷ 9 ∷ []))).number) (59 ∷ 60 ∷ []) ≡ 10 ∷ 3 ∷ []
unfolding opening walk_within behind cut_walk cut_number enough telling up_to reached boundary walk header_within refusal_within known walk_from read_at front opened carrying fields_in widths device_bytes sum record_of carries le_number pick
torn_long = refl

-- ---- what the header says, and a record as bytes
paper_header : header_of paper ≡ heading 0 1 53
unfolding paper opening header_of header_within refusal_within known le_number pick
paper_header = refl

-- of version 3 nothing is said but that it is not known
version_3 : header_of ((78 ∷ 75 ∷ 74 ∷ 3 ∷ 0 ∷ []) ++ replicate start_bytes 0) ≡ heading 9 0 0
unfolding header_of header_within refusal_within known le_number pick
version_3 = refl

event-bytes : bytes_of 1 (Event 1 2 3 4) [] ≡ 1 ∷ 1 ∷ 0 ∷ 0 ∷ 0 ∷ 2 ∷ 3 ∷ 0 ∷ 0 ∷ 0 ∷ 0 ∷ 0 ∷ 0 ∷ 0 ∷ 4 ∷ 0 ∷ 0 ∷ 0 ∷ []
unfolding bytes_of head_of laid le_bytes kind_of fields_of widths device_bytes pick
event-bytes = refl

-- ---- version 2: a device has two bytes, the lower first, and all else is as in version 1
opening_2 : List ℕ
opening_2 = (78 ∷ 75 ∷ 74 ∷ 2 ∷ 0 ∷ []) ++ replicate start_bytes 0

-- an event of 19 bytes, no two of them the same, and the paper's read: 79 bytes in all
second : List ℕ
second =
    opening_2
    ++ (1 ∷ 3 ∷ 4 ∷ 5 ∷ 6 ∷ 1 ∷ 2 ∷ 7 ∷ 8 ∷ 9 ∷ 10 ∷ 11 ∷ 12 ∷ 13 ∷ 14 ∷ 15 ∷ 16 ∷ 17 ∷ 18
    ∷ 5 ∷ 0 ∷ 0 ∷ 0 ∷ 0 ∷ 4 ∷ 0 ∷ [])

second_header : header_of second ≡ heading 0 2 53
unfolding second opening_2 header_of header_within refusal_within known le_number pick
second_header = refl

-- the device is 513 and not 258
second_records : records_in (walk_of second).entries ≡ Event 0x06050403 513 0x0e0d0c0b0a090807 0x1211100f ∷ Read 0 4 ∷ []
unfolding second opening_2 walk_of behind walk header_of header_within refusal_within known walk_from read_at front opened carrying fields_in widths device_bytes sum record_of carries le_number pick
second_records = refl

second_ends : ending_of second ≡ 0
unfolding second opening_2 walk_of behind walk header_of header_within refusal_within known walk_from read_at front opened carrying fields_in widths device_bytes sum record_of carries le_number pick
second_ends = refl

-- 10: a device that has one byte of two
device_cut : ending_of (opening_2 ++ (1 ∷ 0 ∷ 0 ∷ 0 ∷ 0 ∷ 1 ∷ [])) ≡ 10
unfolding opening_2 walk_of behind walk header_of header_within refusal_within known walk_from read_at front opened carrying fields_in widths device_bytes sum record_of carries le_number pick
device_cut = refl

-- 0 right behind the header and behind the event; 10 before, within and behind its device, and where it has the 18 bytes of version 1
second_at : map (λ n. (walk_within n second).number) (53 ∷ 58 ∷ 59 ∷ 60 ∷ 71 ∷ 72 ∷ []) ≡ 0 ∷ 10 ∷ 10 ∷ 10 ∷ 10 ∷ 0 ∷ []
unfolding second opening_2 walk_within behind cut_walk cut_number enough telling up_to reached boundary walk header_within refusal_within known walk_from read_at front opened carrying fields_in widths device_bytes sum record_of carries le_number pick
second_at = refl

wide_event_bytes : bytes_of 2 (Event 1 513 3 4) [] ≡ 1 ∷ 1 ∷ 0 ∷ 0 ∷ 0 ∷ 1 ∷ 2 ∷ 3 ∷ 0 ∷ 0 ∷ 0 ∷ 0 ∷ 0 ∷ 0 ∷ 0 ∷ 4 ∷ 0 ∷ 0 ∷ 0 ∷ []
unfolding bytes_of head_of laid le_bytes kind_of fields_of widths device_bytes pick
wide_event_bytes = refl

-- ---- the devices that there were
devices_in_lem : map devices_in (1 ∷ 2 ∷ []) ≡ 16 ∷ devices ∷ []
unfolding devices_in pick
devices_in_lem = refl
