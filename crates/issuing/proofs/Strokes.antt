-- The two strokes of a desk call, as the code makes them, leave what the desk's rules tell: the plan of the first draw serves all of them, and what
-- is drawn from the generator alone is what further reads would hand out.
use mathlib.Core.Path.{◌≡◌, refl, sym, ap, ◌∙◌}
use mathlib.Core.Bool.{Bool, true, false, not, ◌&&◌}
use mathlib.Core.List.{List, [], ◌∷◌, ◌++◌, append-nil}
use Prim.Native.Nat.{ℕ, zero, suc, ◌+◌, ◌≤◌}
use native.Mathlib.Omega.{arith}
use native.Mathlib.Nat.{zero-add, add-zero}
use lib.Dec.{eqb, leb}
use lib.ListN.{length, take, drop, replicate, drop_of_length-le}
use borrow.Author.Tests.{eq-eqb, ne_eqb, leb-true}
use Rattle.ledger.specs.Choice.{pick}
use Rattle.ledger.specs.Credits.{reseed_takes}
use Rattle.ledger.specs.Sizes.{input_words}
use Rattle.ledger.specs.Streams.{stream_blocks}
use Rattle.ledger.specs.Marks.{reseed_due}
use Rattle.ledger.specs.Range.{ledger_in_range, others_in_range, in_range}
use Rattle.ledger.specs.PublicCalls.{read}
use Rattle.ledger.specs.Plans.{answer_of}
use Rattle.ledger.specs.Machine.{Shown}
use Rattle.ledger.specs.declared.Ledger.{Ledger}
use Rattle.ledger.specs.declared.Answer.{Answer}
use Rattle.ledger.specs.declared.Plan.{Plan}
use Rattle.ledger.proofs.Picks.{and_right}
use Rattle.pool.specs.Mixing.{Pool}
use Rattle.pool.specs.Extracting.{extract}
use Rattle.mixer.specs.Sizes.{shape_of}
use Rattle.keeper.specs.Generator.{onto_key, Stream, generated}
use Rattle.keeper.specs.Record.{Outcome, reached, input_pool, timers_in, keeper_of, with_generator, view, fine}
use Rattle.keeper.specs.Calls.{generator_read}
use Rattle.keeper.specs.Narrative.{reseed, generate, act, told}
use Rattle.keeper.specs.declared.Keeper.{Keeper}
use Rattle.keeper.proofs.Counter.{generated_top, generated-blocks}
use Rattle.steps.specs.Promise.{Left, left, leaves}
use Rattle.steps.proofs.Accepted.{ReadPlan}
use Rattle.steps.proofs.Strokes.{Planned, refusal, moved_on, read_done}
use Rattle.desk.specs.Desks.{remembered, among, appended, desk_in_range}
use Rattle.desk.specs.Issuing.{LeftWith, left_with, Spent, nothing_yet, spending, none, handed, draw, drawing, class_of, issue}
use Rattle.desk.specs.declared.Desk.{Desk}
use Rattle.desk.specs.declared.Issued.{Issued}
use Rattle.desk.proofs.Draws.{read_15, drawn, draw_shadow}
use Rattle.desk.proofs.ReadAgain.{Settled, done_open, leaves_settled}
use Rattle.desk.proofs.DeskShadow.{chosen, passed}
use Rattle.desk.proofs.Refusals.{keeper_refuses}
use Rattle.issuing.specs.Promise.{Streamed, streamed, and_blocks, streaming, in_record}
use Rattle.issuing.proofs.Streams.{flip}

-- ---- a draw of a keeper that seeds nothing first is a read of its generator
not_seeded : (now : ℕ) (k : Keeper) → Settled now (view k) → pick (reseed_due now k.ledger) (reseed now k) (reached k) ≡ reached k
unfolding pick reseed
not_seeded now k s = go (reseed_due now k.ledger) s.takes_none
  where
    go : (t : Bool) → pick t (reseed_takes k.ledger.input.count) 0 ≡ 0 → pick t (reseed now k) (reached k) ≡ reached k
    go true e = chosen (eqb (reseed_takes k.ledger.input.count) 0) _ _ (eq-eqb _ 0 e)
    go false e = refl

settled_draw : (now : ℕ) (k : Keeper) → Settled now (view k) → draw now k ≡ generate 15 (reached k)
unfolding told act pick
settled_draw now k s =
    let o = s.open_still in
    rw (o.sound, read_15 now k, o.seeded) (ap (generate 15) (not_seeded now k s))

-- .. and leaves such a keeper
view_still : (k : Keeper) (h : List ℕ) → take 4 h ≡ take 4 k.generator → view (with_generator h k) ≡ view k
view_still k h e = ap (λ (f : List ℕ). record { ledger = k.ledger; timers = timers_in k; fixed = f }) e

-- draws of it are draws from its generator
over_choice : (k : Keeper) (t : Bool) (a b : LeftWith) (x y : Streamed) → a ≡ in_record k x → b ≡ in_record k y → pick t a b ≡ in_record k (pick t x y)
unfolding pick
over_choice k true a b x y e f = e
over_choice k false a b x y e f = f

-- what draws give, by what the first of them gave
abbrev going_on : ℕ → ℕ → ℕ → Desk → Spent → Outcome → LeftWith
going_on n class now d s o =
    let number = class ∷ o.bytes in
    let spent = spending s o.answer in
    pick (eqb o.answer.number 0)
    (pick (among number (remembered d)) (drawing n class now d spent o.keeper) (left_with o.keeper (appended number d) (handed spent number)))
    (left_with o.keeper d (none o.answer.number spent))

settled_draws : (n class now : ℕ) (d : Desk) (s : Spent) (k : Keeper) → Settled now (view k) → drawing n class now d s k ≡ in_record k (streaming n class d s k.generator)
unfolding drawing streaming generate
settled_draws zero class now d s k h = refl
settled_draws (suc n) class now d s k h =
    let o = generated 15 k.generator in
    let number = class ∷ o.bytes in
    let after = with_generator o.generator k in
    let settled : Settled now (view after) = rw (view_still k o.generator (generated_top 15 k.generator)) h in
    let spent = spending s (generate 15 (reached k)).answer in
    let same : spent ≡ and_blocks o.blocks s = ap (λ (c : ℕ). record { blocks = s.blocks + o.blocks; compressions = c }) (add-zero s.compressions) in
    ap (going_on n class now d s) (settled_draw now k h) ∙ chosen (eqb 0 0) _ _ refl
    ∙ over_choice k (among number (remembered d)) _ _ _ _
    (settled_draws n class now d spent after settled ∙ ap (λ (x : Spent). in_record k (streaming n class d x o.generator)) same)
    (ap (λ (x : Spent). left_with after (appended number d) (handed x number)) same)

-- ---- the first draw: a plan that answers 0 is carried out on the input pool, which is then r, and on the key, with which the generator is g; then
-- bytes are read from the generator
module _ (k : Keeper) (now : ℕ) (p : Plan) (v r : Pool) (g : List ℕ)
    (planned : Planned k (read now 15) p) (shape : ReadPlan 15 p) (zero-answered : p.number ≡ 0) (long : length k.generator ≡ 16)
    (ev : v ≡ input_pool k)
    (er : let e = extract (shape_of input_words) p.reseed v in r ≡ e.pool)
    (eg : let e = extract (shape_of input_words) p.reseed v in g ≡ onto_key e.bytes k.generator) where
  -- the record before the bytes are read
  abbrev seeded : Keeper
  seeded = keeper_of (moved_on r.spot p.ledger) (timers_in k) r.words k.blocking k.fast g

  abbrev bytes_read : Stream
  bytes_read = generated 15 g

  read_so : left (with_generator bytes_read.generator seeded) (answer_of p) bytes_read.bytes ≡ leaves k (generator_read now 15) (replicate 15 0)
  read_so = read_done k now (replicate 15 0) p v r g _ _ planned shape long ev er eg refl refl

  first-answer : (draw now k).answer ≡ answer_of p
  unfolding leaves
  first-answer = sym (ap (λ (x : Left). x.answer) read_so)

  first-bytes : (draw now k).bytes ≡ bytes_read.bytes
  unfolding leaves
  first-bytes =
      let o = draw now k in
      let full = (drawn now k long).full (ap (λ (a : Answer). a.number) first-answer ∙ zero-answered) in
      let room : List ℕ = replicate 15 0 in
      let past : drop (length o.bytes) room ≡ [] = drop_of_length-le room {i = length o.bytes} (omega arith) in
      sym (ap (λ (x : Left). x.room) read_so ∙ ap (λ (r : List ℕ). o.bytes ++ r) past ∙ append-nil o.bytes)

  first-keeper : (draw now k).keeper ≡ with_generator bytes_read.generator seeded
  unfolding leaves
  first-keeper = sym (ap (λ (x : Left). x.keeper) read_so)

  first-draw : draw now k ≡ record { keeper = with_generator bytes_read.generator seeded; answer = answer_of p; bytes = bytes_read.bytes }
  first-draw = λ i. record { keeper = first-keeper i; answer = first-answer i; bytes = first-bytes i }

  -- after it, none seeds
  settled_then : Settled now (view (with_generator bytes_read.generator seeded))
  settled_then =
      let e = draw_shadow now k long in
      let opened = done_open now (view k) (ap (λ (x : Shown). x.answer.number) (sym e) ∙ ap (λ (a : Answer). a.number) first-answer ∙ zero-answered) in
      rw (sym (ap (λ (x : Keeper). view x) first-keeper), ap (λ (x : Shown). x.view) e) (leaves_settled now (view k) opened)

  -- ALL DRAWS
  pub all_draws : (n class : ℕ) (d : Desk) → drawing (suc n) class now d nothing_yet k ≡ in_record seeded (streaming (suc n) class d (record { blocks = 0; compressions = (answer_of p).compressions }) g)
  unfolding drawing streaming
  all_draws n class d =
      let number = class ∷ bytes_read.bytes in
      let after = with_generator bytes_read.generator seeded in
      let start : Spent = record { blocks = 0; compressions = (answer_of p).compressions } in
      let blocks : 0 + (answer_of p).blocks ≡ 0 + bytes_read.blocks = ap (λ (b : ℕ). 0 + b) (ap stream_blocks shape.whole ∙ sym (generated-blocks 15 g)) in
      let same : spending nothing_yet (answer_of p) ≡ and_blocks bytes_read.blocks start = λ i. record { blocks = blocks i; compressions = zero-add (answer_of p).compressions i } in
      ap (going_on n class now d nothing_yet) first-draw ∙ chosen (eqb p.number 0) _ _ (eq-eqb p.number 0 zero-answered)
      ∙ over_choice seeded (among number (remembered d)) _ _ _ _
      (settled_draws n class now d (spending nothing_yet (answer_of p)) after settled_then ∙ ap (λ (x : Spent). in_record seeded (streaming n class d x bytes_read.generator)) same)
      (ap (λ (x : Spent). left_with after (appended number d) (handed x number)) same)

  -- .. as the code hands them over: the answer of the plan that was carried out, and what the draws left
  pub handed-over : (class : ℕ) (d : Desk) (a : Answer) → a ≡ answer_of p
      → (h : List ℕ) (d' : Desk) (i : Issued) → streamed h d' i ≡ streaming 4 class d (record { blocks = 0; compressions = a.compressions }) g
      → left_with (with_generator h seeded) d' i ≡ drawing 4 class now d nothing_yet k
  handed-over class d a ea h d' i e =
      ap (in_record seeded) e
      ∙ (λ j. in_record seeded (streaming 4 class d (record { blocks = 0; compressions = (ea j).compressions }) g))
      ∙ sym (all_draws 3 class d)

-- ---- the whole call. `t` is the range test as the code makes it, of which `others` is the part that the ledger does not hold
pub counted : (l : Ledger) (others t : Bool) (count : ℕ) → t ≡ ((ledger_in_range l && others) && leb count 64) → not t ≡ false → count ≤ 64
counted l others t count e h = leb-true count 64 (and_right (ledger_in_range l && others) _ (sym e ∙ flip t false h))

module _ (k : Keeper) (d : Desk) (now : ℕ) (field : List ℕ) (others t : Bool) (eo : others ≡ others_in_range (timers_in k) (take 4 k.generator))
    (et : t ≡ ((ledger_in_range k.ledger && others) && leb d.count 64)) where
  tested : t ≡ (fine k && desk_in_range d)
  unfolding in_range
  tested = et ∙ ap (λ (o : Bool). (ledger_in_range k.ledger && o) && leb d.count 64) eo

  -- 17
  pub out : not t ≡ true → left_with k d (none 17 nothing_yet) ≡ issue k d now field
  unfolding issue
  out h = sym (passed (fine k && desk_in_range d) _ _ (sym tested ∙ flip t true h))

  module _ (h : not t ≡ false) (c : ℕ) (ec : c ≡ class_of field) where
    -- 13
    pub no_class : c ≡ 0 → left_with k d (none 13 nothing_yet) ≡ issue k d now field
    unfolding issue
    no_class z = sym (chosen (fine k && desk_in_range d) _ _ (sym tested ∙ flip t false h) ∙ chosen (eqb (class_of field) 0) _ _ (eq-eqb (class_of field) 0 (sym ec ∙ z)))

    -- the keeper's own
    pub keeper_says : (c ≡ 0 → ⊥) → (p : Plan) → Planned k (read now 15) p → (p.number ≡ 0 → ⊥) → left_with k d (none p.number nothing_yet) ≡ issue k d now field
    unfolding leaves
    keeper_says z p e r =
        let n : p.number ≡ (draw now k).answer.number = ap (λ (x : Left). x.answer.number) (refusal k (generator_read now 15) [] p e r) in
        ap (λ (m : ℕ). left_with k d (none m nothing_yet)) n
        ∙ sym (keeper_refuses k d now field (sym tested ∙ flip t false h) (λ y. z (ec ∙ y)) (λ y. r (n ∙ y)))

    -- draws
    pub draws_on : (c ≡ 0 → ⊥) → drawing 4 c now d nothing_yet k ≡ issue k d now field
    unfolding issue
    draws_on z =
        ap (λ (x : ℕ). drawing 4 x now d nothing_yet k) ec
        ∙ sym (chosen (fine k && desk_in_range d) _ _ (sym tested ∙ flip t false h) ∙ passed (eqb (class_of field) 0) _ _ (ne_eqb (class_of field) 0 (λ y. z (ec ∙ y))))
