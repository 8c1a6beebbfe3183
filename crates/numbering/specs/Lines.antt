-- The line of a message number: the answer, ChaCha20 blocks and compressions, and the 16 bytes.
use Rattle.std.specs.Prelude.{◌≡◌, List, [], ◌∷◌, ◌++◌, ℕ, ◌≤◌}
use Rattle.transcript.specs.Text.{Put, decimal_of, word_of, tail_of}
use Rattle.keeper.specs.declared.Keeper.{Keeper}
use Rattle.desk.specs.Issuing.{LeftWith}
use Rattle.desk.specs.declared.Desk.{Desk}
use Rattle.desk.specs.declared.Issued.{Issued}

-- three numbers in decimal with single spaces, a space and the bytes in hexadecimal, a newline. A refusal hands back zeros, and they are written
unfoldable pub issued_line : Issued → List ℕ
issued_line i = word_of i.answer.number ++ (word_of i.answer.blocks ++ (decimal_of i.answer.compressions ++ (tail_of i.number ++ (10 ∷ []))))

-- 11 + 11 + 10 + 1 + 32 + 1
abbrev pub longest_issued : ℕ
longest_issued = 66

-- what a desk call left, as the code has it: the record, the desk, and in a room the line of what was handed back
pub record IssuedWith (x : LeftWith) (k : Keeper) (d : Desk) (room room' : List ℕ) (len : ℕ) : Type 0 where
  pub keeper : k ≡ x.keeper
  pub desk : d ≡ x.desk
  pub line : Put room room' 0 (issued_line x.issued) len
  pub fits : len ≤ longest_issued
