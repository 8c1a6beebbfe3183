-- The numbers given back, one name for each: the paper's table.
use Rattle.std.specs.Prelude.{ℕ}

abbrev pub done : ℕ
done = 0

abbrev pub would_block : ℕ
would_block = 1

abbrev pub unseeded : ℕ
unseeded = 2

abbrev pub too_long : ℕ
too_long = 3

abbrev pub no_such_device : ℕ
no_such_device = 4

abbrev pub credit_too_high : ℕ
credit_too_high = 5

abbrev pub start_not_48 : ℕ
start_not_48 = 6

abbrev pub repeated : ℕ
repeated = 7

abbrev pub mark_wrong : ℕ
mark_wrong = 8

abbrev pub version_wrong : ℕ
version_wrong = 9

abbrev pub cut_short : ℕ
cut_short = 10

abbrev pub unknown_kind : ℕ
unknown_kind = 11

abbrev pub journal_too_large : ℕ
journal_too_large = 12

abbrev pub no_such_class : ℕ
no_such_class = 13

abbrev pub all_repeated : ℕ
all_repeated = 14

abbrev pub index_differs : ℕ
index_differs = 16

abbrev pub out_of_range : ℕ
out_of_range = 17

abbrev pub no_such_record : ℕ
no_such_record = 18

abbrev pub room_too_short : ℕ
room_too_short = 19
