-- A journal that was converted replays as it did: the outcome has the very transcript of the journal of version 1, and leaves the same keeper.
use mathlib.Core.Path.{◌≡◌, refl, sym, ap, ap₂, ◌∙◌}
use mathlib.Core.Bool.{Bool, true, false, ◌||◌, false≢true}
use mathlib.Core.List.{List, [], ◌∷◌, ◌++◌, map}
use Prim.Native.Nat.{ℕ, ◌<◌}
use native.Mathlib.Omega.{arith}
use borrow.Author.Tests.{eq-eqb, leb-false}
use Rattle.ledger.specs.Choice.{pick}
use Rattle.journal.specs.Layout.{devices_in}
use Rattle.journal.specs.Header.{header_of, version_of}
use Rattle.journal.specs.Walking.{Entry, walk_of}
use Rattle.journal.specs.Writing.{Said, said_at, said_in}
use Rattle.journal.specs.Found.{Heading}
use Rattle.journal.specs.declared.records.Record.{Record}
use Rattle.journal.specs.declared.records.Record.TheVariants.{Event, Interrupt, Write, Seed, Read, BlockingRead}
use Rattle.journal.proofs.Runs.{Bytes}
use Rattle.journal.proofs.Appended.{ends_well}
use Rattle.transcript.specs.Lines.{end_of}
use Rattle.keeper.specs.Record.{Outcome, fresh}
use Rattle.keeper.specs.Calls.{Call}
use Rattle.keeper.specs.Demands.{outcomes, keeper_after}
use Rattle.keeper.specs.declared.Keeper.{Keeper}
use Rattle.convert.specs.Converting.{outcome_of, strange, beyond, refusal_of}
use Rattle.convert.proofs.Refusing.{taken}
use Rattle.convert.proofs.ConvertedJournals.{header_2, same_start, same_records, ends}
use Rattle.replay.specs.Running.{call_with, call_of}
use Rattle.replay.specs.Whole.{calls_of, lines_of, transcript_of, replayed}
use Rattle.replay.proofs.OldDevices.{named}

-- ---- calls are made of records and the bytes that they carry, wherever they stand
abbrev call_said : ℕ → Said → Call
call_said v s = call_with v s.carried s.what

by_said : (v : ℕ) (j : List ℕ) (es : List Entry) → map (call_of v j) es ≡ map (call_said v) (said_in j es)
unfolding said_at
by_said v j [] = refl
by_said v j (e ∷ es) = ap (λ (cs : List Call). call_of v j e ∷ cs) (by_said v j es)

-- a record that is no event of a device that version 1 has not is the same call in both versions
same_call : (bs : List ℕ) (r : Record) → strange r ≡ false → call_with 2 bs r ≡ call_with 1 bs r
unfolding call_with strange devices_in pick
same_call bs (Event now device stamp value) h =
    let old : device < devices_in 1 = leb-false (devices_in 1) device h in
    let new : device < devices_in 2 = omega arith in
    rw (named 1 device old, named 2 device new) refl
same_call bs (Interrupt now number stamp address) h = refl
same_call bs (Write now len) h = refl
same_call bs (Seed now len credit) h = refl
same_call bs (Read now len) h = refl
same_call bs (BlockingRead now len) h = refl

neither : (a b : Bool) → (a || b) ≡ false → (a ≡ false) × (b ≡ false)
neither false b h = (refl, h)
neither true b h = absurd (false≢true (sym h))

same_calls : (j : List ℕ) (es : List Entry) → beyond es ≡ false → map (call_said 2) (said_in j es) ≡ map (call_said 1) (said_in j es)
unfolding beyond said_at
same_calls j [] h = refl
same_calls j (e ∷ es) h =
    let n = neither (strange e.what) (beyond es) h in
    ap₂ (λ (c : Call) (cs : List Call). c ∷ cs) (same_call _ e.what n.0) (same_calls j es n.1)

-- ---- THE CONVERTED JOURNAL
module _ (j : List ℕ) (n : ℕ) (z : refusal_of j n ≡ 0) (b : Bytes j) where
  abbrev out : List ℕ
  out = outcome_of j

  -- makes the same calls
  converted_calls : calls_of out ≡ calls_of j
  converted_calls =
      let t = taken j n z in
      let v : version_of out ≡ 2 = ap (λ (h : Heading). h.version) (header_2 j n z b) in
      let es = (walk_of j).entries in
      ap (λ (u : ℕ). map (call_of u out) (walk_of out).entries) v
      ∙ by_said 2 out (walk_of out).entries
      ∙ ap (map (call_said 2)) (same_records j n z b)
      ∙ same_calls j es t.devices
      ∙ sym (by_said 1 j es)
      ∙ sym (ap (λ (u : ℕ). map (call_of u j) es) t.version)

  -- THE SAME TRANSCRIPT
  pub same_transcript : transcript_of (outcome_of j) ≡ transcript_of j
  unfolding transcript_of
  same_transcript =
      let t = taken j n z in
      ap₂ (λ (os : List Outcome) (m : ℕ). lines_of os ++ end_of m)
      (ap₂ (λ (s : List ℕ) (cs : List Call). outcomes (fresh s) cs) (same_start j n z b) converted_calls)
      (ends j n z b ∙ sym t.ends)

  -- THE SAME KEEPER, in whatever record
  pub same_keeper : (k : Keeper) → replayed (outcome_of j) k ≡ replayed j k
  unfolding replayed pick
  same_keeper k =
      let t = taken j n z in
      let g : (header_of out).number ≡ 0 = ap (λ (h : Heading). h.number) (header_2 j n z b) in
      rw (eq-eqb (header_of out).number 0 g, eq-eqb (header_of j).number 0 (ends_well j t.ends))
      (ap₂ (λ (s : List ℕ) (cs : List Call). keeper_after (fresh s) cs) (same_start j n z b) converted_calls)
