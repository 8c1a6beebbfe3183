use mathlib.Core.Path.{◌≡◌, sym, ◌∙◌}
use mathlib.Core.Bool.{Bool}
use Prim.Native.Nat.{ℕ}
use Rattle.journal.specs.Header.{known}
use native.Mathlib.Omega.{arith}
use Rattle.journal.proofs.GoodHeader.{good_refusal, too_large, letters, unmarked, no_version, version_wrong_lem, no_start}
use Rattle.journal.proofs.heading.refused.Goals as goal

-- what was answered of the version that stands there
of-version : (v n : ℕ) (b c : Bool) → v ≡ n → b ≡ known v → b ≡ c → known n ≡ c
of-version v n b c e k h = rw (← e, ← k) h

pub returns-then-j-gt-LARGEST : goal.returns-then-j-gt-LARGEST
returns-then-j-gt-LARGEST c = search (too_large, arith)

pub returns-then-not-starts_with : goal.returns-then-not-starts_with
returns-then-not-starts_with c = unmarked c.args.j.now _ c.starts_with.ensures.value c.if-j-gt-LARGEST.false c.if-not-starts_with.true

pub returns-then-j-lt5 : goal.returns-then-j-lt5
returns-then-j-lt5 c = let mark = letters c.args.j.now _ c.starts_with.ensures.value c.if-not-starts_with.false in
    let size = c.starts_with.ensures.bound (c.if-not-starts_with.false) in
    no_version _ _ size mark.0 mark.1.0 mark.1.1 c.if-j-lt5.true

pub returns-then-not-known : goal.returns-then-not-known
returns-then-not-known c = let mark = letters c.args.j.now _ c.starts_with.ensures.value c.if-not-starts_with.false in
    let other = of-version _ _ _ _ (c.from.ensures ∙ c.two.ensures) c.known.ensures c.if-not-known.true in
    version_wrong_lem _ _ c.if-j-gt-LARGEST.false c.if-j-lt5.false mark.0 mark.1.0 mark.1.1 other

pub returns-then-j-lt-RECORDS_BEGIN : goal.returns-then-j-lt-RECORDS_BEGIN
returns-then-j-lt-RECORDS_BEGIN c = let mark = letters c.args.j.now _ c.starts_with.ensures.value c.if-not-starts_with.false in
    let version = of-version _ _ _ _ (c.from.ensures ∙ c.two.ensures) c.known.ensures c.if-not-known.false in
    no_start _ _ c.if-j-lt5.false mark.0 mark.1.0 mark.1.1 version c.if-j-lt-RECORDS_BEGIN.true

pub returns : goal.returns
returns c = let mark = letters c.args.j.now _ c.starts_with.ensures.value c.if-not-starts_with.false in
    let version = of-version _ _ _ _ (c.from.ensures ∙ c.two.ensures) c.known.ensures c.if-not-known.false in
    sym (good_refusal _ _ (record { fits = c.if-j-gt-LARGEST.false; there = c.if-j-lt-RECORDS_BEGIN.false; first = mark.0; second = mark.1.0; third = mark.1.1; version = version }))
