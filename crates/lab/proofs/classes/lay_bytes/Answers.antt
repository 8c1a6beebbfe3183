use mathlib.Core.Path.{◌≡◌, refl, ap, ap₂, ◌∙◌}
use mathlib.Core.Bool.{true}
use mathlib.Core.List.{List}
use Prim.Native.Nat.{ℕ, suc, ◌+◌, ◌*◌, ◌<◌}
use native.Mathlib.Omega.{arith}
use native.Mathlib.Numerals.{add-one}
use lib.ListN.{length, drop, get_or, length-set}
use Rattle.lab.specs.Classes.{is_hex, hex_value}
use Rattle.lab.proofs.HexWords.{first-digit, second_digit, others, two, two_each, one_byte, no_byte}
use Rattle.lab.proofs.classes.lay_bytes.Goals as goal

pub byte-requires : goal.byte-requires
byte-requires c = let m = two c.args.word.now (2 * c.loop-i.i) (omega arith) c.loop-i.invariant.1 in
    let here : hex_value (get_or c.args.word.now (2 * c.loop-i.i + 1) 0) ≡ hex_value (get_or c.args.word.now (suc (2 * c.loop-i.i)) 0) = rw add-one refl in
    let a = first-digit c.args.word.now (2 * c.loop-i.i) m c.loop-i.invariant.1 in
    let b = second_digit c.args.word.now (2 * c.loop-i.i) m c.loop-i.invariant.1 in
    (omega (arith, a, c.value.ensures), omega (arith, b, c.value-in-loop-i.ensures, here))

pub loop-i-preserved : goal.loop-i-preserved
loop-i-preserved c = let w = c.args.word.now in
    let m = two w (2 * c.loop-i.i) (omega arith) c.loop-i.invariant.1 in
    let next : 2 * (c.loop-i.i + 1) ≡ suc (suc (2 * c.loop-i.i)) = omega arith in
    let here : hex_value (get_or w (2 * c.loop-i.i + 1) 0) ≡ hex_value (get_or w (suc (2 * c.loop-i.i)) 0) = rw add-one refl in
    let this = c.byte.ensures ∙ ap₂ (λ (x y : ℕ). x * 16 + y) c.value.ensures (c.value-in-loop-i.ensures ∙ here) in (
      simp length-set c.loop-i.invariant.0,
      ap (λ (n : ℕ). is_hex (drop n w)) next ∙ others w (2 * c.loop-i.i) m c.loop-i.invariant.1,
      rw (next, add-one) (one_byte _ w (2 * c.loop-i.i) _ _ _ m this c.loop-i.invariant.2),
    )

pub returns : goal.returns
returns c = let t = two_each c.args.word.now c.requires.0 in
    let done = no_byte _ c.args.word.now (2 * c.loop-i.i) c.loop-i.i _ (omega (arith, t)) c.loop-i.invariant.2 in
    (record { place = omega (arith, t); stored = done }, omega (arith, c.loop-i.invariant.0, c.requires.1))
