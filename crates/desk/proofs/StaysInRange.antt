-- A record and a desk in range stay in range, whatever is called and asked for, so no run from a fresh keeper and an empty desk is ever answered
-- 17. What shows of a desk call is enough to see it.
use mathlib.Core.Path.{◌≡◌, ap}
use mathlib.Core.Bool.{true, ◌&&◌}
use mathlib.Core.List.{◌∷◌}
use Prim.Native.Nat.{ℕ, zero, suc}
use borrow.Author.Tests.{le-leb}
use Rattle.ledger.proofs.Picks.{both}
use Rattle.keeper.specs.Record.{fine}
use Rattle.keeper.specs.Narrative.{told}
use Rattle.keeper.specs.declared.Keeper.{Keeper}
use Rattle.keeper.proofs.Shadow.{Whole, stays_whole}
use Rattle.keeper.proofs.StaysInRange.{stays-fine}
use Rattle.desk.specs.Desks.{desk_in_range}
use Rattle.desk.specs.Issuing.{LeftWith, Spent, nothing_yet, spending, draw_call, draw, drawing, class_of, issue}
use Rattle.desk.specs.Runs.{Act, calls, asks, acted}
use Rattle.desk.specs.declared.Desk.{Desk}
use Rattle.desk.proofs.Draws.{drawn, drawing_by, issue_by}
use Rattle.desk.proofs.DeskAfter.{DeskWhole, appended_whole}

-- ---- lists keep their lengths
record StaysWhole (x : LeftWith) : Type 0 where
  so : Whole x.keeper

draws_whole : (n class now : ℕ) (d : Desk) (s : Spent) (k : Keeper) → Whole k → StaysWhole (drawing n class now d s k)
unfolding drawing
draws_whole zero class now d s k w = record { so = w }
draws_whole (suc n) class now d s k w =
    let o = draw now k in
    let f = stays_whole k (draw_call now) w in
    drawing_by (λ r. StaysWhole) n class now d s k (λ z t. draws_whole n class now d (spending s o.answer) o.keeper f) (λ z t. record { so = f }) (λ refuses. record { so = f })

pub acted_whole : (k : Keeper) (d : Desk) (a : Act) → Whole k → Whole (acted k d a).keeper
unfolding acted
acted_whole k d (calls c) w = stays_whole k c w
acted_whole k d (asks now field) w =
    (issue_by (λ r. StaysWhole) k d now field (λ f. record { so = w }) (λ f c. record { so = w }) (λ f c. draws_whole 4 (class_of field) now d nothing_yet k w)).so

-- a keeper whose lists have their lengths, and a desk whose places have theirs and whose count is in range
pub record Stand (k : Keeper) (d : Desk) : Type 0 where
  pub whole : Whole k
  pub desk : DeskWhole d

-- a desk stays whole
record DeskStands (x : LeftWith) : Type 0 where
  so : DeskWhole x.desk

draws_stand : (n class now : ℕ) (d : Desk) (s : Spent) (k : Keeper) → Whole k → DeskWhole d → DeskStands (drawing n class now d s k)
unfolding drawing
draws_stand zero class now d s k w h = record { so = h }
draws_stand (suc n) class now d s k w h =
    let o = draw now k in
    drawing_by (λ r. DeskStands) n class now d s k
    (λ z t. draws_stand n class now d (spending s o.answer) o.keeper (stays_whole k (draw_call now) w) h)
    (λ z t. record { so = appended_whole (class ∷ o.bytes) d h (ap suc ((drawn now k w.generator).full z)) })
    (λ refuses. record { so = h })

desk_stands : (k : Keeper) (d : Desk) (a : Act) → Whole k → DeskWhole d → DeskWhole (acted k d a).desk
unfolding acted
desk_stands k d (calls c) w h = h
desk_stands k d (asks now field) w h =
    (issue_by (λ r. DeskStands) k d now field (λ f. record { so = h }) (λ f c. record { so = h }) (λ f c. draws_stand 4 (class_of field) now d nothing_yet k w h)).so

pub acted-stands : (k : Keeper) (d : Desk) (a : Act) → Stand k d → Stand (acted k d a).keeper (acted k d a).desk
acted-stands k d a h = record { whole = acted_whole k d a h.whole; desk = desk_stands k d a h.whole h.desk }

-- ---- and the record stays in range
record Sound (x : LeftWith) : Type 0 where
  so : fine x.keeper ≡ true

draws_sound : (n class now : ℕ) (d : Desk) (s : Spent) (k : Keeper) → Whole k → fine k ≡ true → Sound (drawing n class now d s k)
unfolding drawing
draws_sound zero class now d s k w h = record { so = h }
draws_sound (suc n) class now d s k w h =
    let o = draw now k in
    let f = stays-fine k (draw_call now) w h in
    drawing_by (λ r. Sound) n class now d s k
    (λ z t. draws_sound n class now d (spending s o.answer) o.keeper (stays_whole k (draw_call now) w) f)
    (λ z t. record { so = f })
    (λ refuses. record { so = f })

-- IN RANGE AFTERWARDS
pub stays_in_range : (k : Keeper) (d : Desk) (a : Act) → Stand k d → fine k ≡ true → let x = acted k d a in (fine x.keeper && desk_in_range x.desk) ≡ true
unfolding acted
stays_in_range k d (calls c) h f =
    both (fine (told k c).keeper) (desk_in_range d) (stays-fine k c h.whole f) (le-leb d.count 64 h.desk.counted)
stays_in_range k d (asks now field) h f =
    let x = issue k d now field in
    let s = (issue_by (λ r. Sound) k d now field (λ g. record { so = f }) (λ g c. record { so = f }) (λ g c. draws_sound 4 (class_of field) now d nothing_yet k h.whole f)).so in
    both (fine x.keeper) (desk_in_range x.desk) s (le-leb x.desk.count 64 (acted-stands k d (asks now field) h).desk.counted)
