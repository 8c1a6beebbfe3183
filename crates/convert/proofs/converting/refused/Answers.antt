use mathlib.Core.Path.{refl, sym, ◌∙◌}
use Rattle.std.proofs.lemmas.Result.{err_from_is_err_and}
use Rattle.journal.specs.Walking.{walk}
use Rattle.journal.proofs.Refused.{not_0}
use Rattle.convert.specs.Passes.{judged}
use Rattle.convert.proofs.Refusing.{does_not_end, not_version_1, no_device, too_large, too_short, nothing_refuses, header_refuses, found_all, sized}
use native.Mathlib.Omega.{arith}
use Rattle.convert.proofs.converting.refused.Goals as goal

pub returns-in_err-h : goal.returns-in_err-h
returns-in_err-h c = let p = err_from_is_err_and c.from_residual.result c.from_residual.ensures.1 in
    rw (p.1, p.2) (header_refuses _ _ c.in_err-h.ensures _ (not_0 _))

pub returns-in_err-found : goal.returns-in_err-found
returns-in_err-found c = let p = err_from_is_err_and c.from_residual-in_err-found.result c.from_residual-in_err-found.ensures.1 in
    let h = c.in_ok-h.h in
    let f = found_all c.args.j.now _ c.in_ok-h.ensures (judged (walk h.version c.args.j.now h.place)) refl refl in
    rw (p.1, p.2) (c.in_err-found.ensures ∙ (f.ending ∙ does_not_end _ _ (λ z. not_0 _ (c.in_err-found.ensures ∙ (f.ending ∙ z)))))

pub returns-then-h-ne1 : goal.returns-then-h-ne1
returns-then-h-ne1 c = let wrong = c.if-h-ne1.true in
    let said = c.in_ok-found.ensures in
    let f = found_all _ _ c.in_ok-h.ensures _ refl said in
    not_version_1 _ _ (sym f.ending) (λ v. wrong (f.version ∙ v))

pub returns-then-found : goal.returns-then-found
returns-then-found c = let wrong = c.if-found.true in
    let said = c.in_ok-found.ensures in
    let f = found_all _ _ c.in_ok-h.ensures _ refl said in
    no_device _ _ (sym f.ending) (sym f.version ∙ c.if-h-ne1.false) (sym f.devices ∙ wrong)

pub overflow_add-len : goal.overflow_add-len
overflow_add-len c = let said = c.in_ok-found.ensures in
    let f = found_all _ _ c.in_ok-h.ensures _ refl said in
    omega (arith, f.short, f.few)

pub returns-then-len-gt-LARGEST : goal.returns-then-len-gt-LARGEST
returns-then-len-gt-LARGEST c = let long = c.if-len-gt-LARGEST.true in
    let said = c.in_ok-found.ensures in
    let f = found_all _ _ c.in_ok-h.ensures _ refl said in
    let n = sized _ _ c.in_ok-h.ensures _ f refl c.if-h-ne1.false in
    too_large _ _ (sym f.ending) (sym f.version ∙ c.if-h-ne1.false) (sym f.devices ∙ c.if-found.false) (omega (arith, n, long))

pub returns-then-room-len : goal.returns-then-room-len
returns-then-room-len c = let short = c.if-room-len.true in
    let said = c.in_ok-found.ensures in
    let f = found_all _ _ c.in_ok-h.ensures _ refl said in
    let n = sized _ _ c.in_ok-h.ensures _ f refl c.if-h-ne1.false in
    too_short _ _ (sym f.ending) (sym f.version ∙ c.if-h-ne1.false) (sym f.devices ∙ c.if-found.false) (omega (arith, n, c.if-len-gt-LARGEST.false)) (omega (arith, n, short))

pub returns : goal.returns
returns c = let enough = c.if-room-len.false in
    let said = c.in_ok-found.ensures in
    let f = found_all _ _ c.in_ok-h.ensures _ refl said in
    let n = sized _ _ c.in_ok-h.ensures _ f refl c.if-h-ne1.false in
    nothing_refuses _ _
    (record {
      ends = sym f.ending;
      version = sym f.version ∙ c.if-h-ne1.false;
      devices = sym f.devices ∙ c.if-found.false;
      fits = omega (arith, n, c.if-len-gt-LARGEST.false);
      room = omega (arith, n, enough);
    })
