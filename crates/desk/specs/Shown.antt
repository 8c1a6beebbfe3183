-- What a desk call shows, worked out from public numbers and from how many of its draws repeated: what is public of the record afterwards, the
-- desk's count, and the answer. A draw that repeats shows by one block more, and where all four do, by the answer 14, no byte delivered and a count
-- that stays. Of the record nothing public moves by a repeat: the first draw at a clock may seed the generator anew, and then none after it does.
use Rattle.std.specs.Prelude.{◌≡◌, ◌&&◌, List, [], ◌∷◌, ℕ, suc, ◌+◌, ◌<◌, ltb, leb, eqb}
use Rattle.ledger.specs.Choice.{pick}
use Rattle.ledger.specs.Numbers.{done, no_such_class, all_repeated, out_of_range}
use Rattle.ledger.specs.Range.{View, in_range}
use Rattle.ledger.specs.PublicCalls.{PublicCall, read}
use Rattle.ledger.specs.Plans.{bare}
use Rattle.ledger.specs.Machine.{Shown, step_view}
use Rattle.ledger.specs.declared.Answer.{Answer}
use Rattle.keeper.specs.Record.{view}
use Rattle.desk.specs.Sizes.{remembers, drawn_bytes, number_bytes, most_draws}
use Rattle.desk.specs.Issuing.{LeftWith}
use Rattle.desk.specs.Runs.{PublicAct, public_call, public_ask}

pub record DeskShown : Type 0 where
  pub view : View
  pub count : ℕ
  pub answer : Answer

-- all but the words of the pools, of the fast pool and of the generator, and the numbers that the desk holds and hands out
abbrev pub desk_shown : LeftWith → DeskShown
desk_shown x = record { view = view x.keeper; count = x.desk.count; answer = x.issued.answer }

-- a refusal that changes nothing
abbrev pub unmoved : ℕ → View → ℕ → DeskShown
unmoved why v count = record { view = v; count = count; answer = bare why }

-- a number issued after so many draws that repeated; the first draw shows s
abbrev pub issued_after : ℕ → Shown → ℕ → DeskShown
issued_after repeated s count =
    record { view = s.view; count = pick (ltb count remembers) (count + 1) count; answer = record { number = done; delivered = number_bytes; blocks = suc repeated; compressions = s.answer.compressions; added = 0 } }

-- none issued, as all four repeated
abbrev pub repeated_all : Shown → ℕ → DeskShown
repeated_all s count =
    record { view = s.view; count = count; answer = record { number = all_repeated; delivered = 0; blocks = most_draws; compressions = s.answer.compressions; added = 0 } }

abbrev pub draws_show : ℕ → Shown → ℕ → DeskShown
draws_show repeated s count = pick (ltb repeated most_draws) (issued_after repeated s count) (repeated_all s count)

unfoldable pub issue_shows : View → ℕ → ℕ → ℕ → ℕ → DeskShown
issue_shows v count class now repeated =
    let s = step_view v (read now drawn_bytes) in
    pick (in_range v && leb count remembers)
    (pick (eqb class 0) (unmoved no_such_class v count) (pick (eqb s.answer.number done) (draws_show repeated s count) (unmoved s.answer.number v count)))
    (unmoved out_of_range v count)

-- .. and what any act of a run shows
abbrev pub act_shows : View → ℕ → PublicAct → ℕ → DeskShown
act_shows v count (public_call c) repeated = let s = step_view v c in record { view = s.view; count = count; answer = s.answer }
act_shows v count (public_ask now class) repeated = issue_shows v count class now repeated

-- a run, from how many draws of each repeated
unfoldable pub run_shows : View → ℕ → List PublicAct → List ℕ → List DeskShown
run_shows v count [] rs = []
run_shows v count (a ∷ more) [] = []
run_shows v count (a ∷ more) (r ∷ rs) = let x = act_shows v count a r in x ∷ run_shows x.view x.count more rs

-- ---- what may differ between two runs whose draws repeat as they will
-- a call that drew: a number after one to four blocks, or none after four; the compressions are those of the first draw
pub data Drew (c : ℕ) (a : Answer) : Type 0 where
  a_number : (r : ℕ) → r < most_draws → a ≡ record { number = done; delivered = number_bytes; blocks = suc r; compressions = c; added = 0 } → Drew c a
  no_number : a ≡ record { number = all_repeated; delivered = 0; blocks = most_draws; compressions = c; added = 0 } → Drew c a

-- the same answer; or both drew, and then three blocks may lie between them, and a number or none
pub data Close (a b : Answer) : Type 0 where
  alike : a ≡ b → Close a b
  both_drew : (c : ℕ) → Drew c a → Drew c b → Close a b

-- two runs, act by act: after each of them all that is public of the record is the same; a keeper's call answers the same, and a desk call comes close.
-- The desks' counts may differ from where one run issued a number and the other none; LastIssued.count-after says what a count is
pub data AllNear : List PublicAct → List DeskShown → List DeskShown → Type 0 where
  ended : AllNear [] [] []
  called : {c : PublicCall} {more : List PublicAct} {x y : DeskShown} {xs ys : List DeskShown}
      → x.view ≡ y.view → x.answer ≡ y.answer → AllNear more xs ys → AllNear (public_call c ∷ more) (x ∷ xs) (y ∷ ys)
  asked : {now class : ℕ} {more : List PublicAct} {x y : DeskShown} {xs ys : List DeskShown}
      → x.view ≡ y.view → Close x.answer y.answer → AllNear more xs ys → AllNear (public_ask now class ∷ more) (x ∷ xs) (y ∷ ys)
