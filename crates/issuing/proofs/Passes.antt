-- The pass over the remembered numbers, the class byte, and a number more.
use mathlib.Core.Path.{◌≡◌, refl, sym, ap, ap₂, ◌∙◌}
use mathlib.Core.Bool.{Bool, true, false, ◌||◌, and-false, or-false, or_assoc}
use mathlib.Core.List.{List, [], ◌∷◌, ◌++◌, append-nil}
use Prim.Native.Nat.{ℕ, zero, suc, ◌+◌, ◌*◌, ◌-◌, ◌≤◌, ◌<◌}
use native.Mathlib.Omega.{arith}
use lib.Dec.{eqb}
use lib.ListN.{length, get_or, take, drop, drop_of_length-le, length-drop, length-append}
use lib.Seq.{sets, sets-eq, take-length, take-append_seam}
use borrow.Author.Tests.{eq-eqb, ne_eqb, lt-ltb, le-ltb}
use borrow.Rule.Slice.PartMut.{put_mid}
use Rattle.std.specs.List.{copy_within}
use Rattle.std.proofs.lemmas.Slice.{put_mid-paste}
use Rattle.std.specs.Simd.{first_chunks}
use Rattle.ledger.specs.Choice.{pick}
use Rattle.desk.specs.Issuing.{class_of}
use Rattle.desk.specs.Desks.{numbers_in, same, among, desk_of, appended}
use Rattle.desk.specs.declared.Desk.{Desk}
use Rattle.issuing.specs.Classes.{byte_of}
use Rattle.issuing.specs.declared.classes.Class.{Class}
use Rattle.issuing.specs.declared.classes.Class.TheVariants.{Drill, Live}

-- the first numbers that bytes hold, as the first of the chunks that they are cut into
pub cut : (c n : ℕ) (bs : List ℕ) → c ≤ n → take c (first_chunks 16 n bs) ≡ numbers_in c bs
unfolding numbers_in
cut zero n bs h = refl
cut (suc c) zero bs h = absurd (omega arith)
cut (suc c) (suc n) bs h = ap (λ (ms : List (List ℕ)). take 16 bs ∷ ms) (cut c n (drop 16 bs) (omega arith))

-- the last of the first numbers is met
or_swap : (a b c : Bool) → (a || (b || c)) ≡ (b || (a || c))
or_swap true true c = refl
or_swap true false c = refl
or_swap false b c = refl

last_apart : (n : List ℕ) (ms : List (List ℕ)) (i : ℕ) → i < length ms → among n (take (suc i) ms) ≡ (same (get_or ms i []) n || among n (take i ms))
unfolding among
last_apart n [] i h = absurd (omega arith)
last_apart n (m ∷ ms) zero h = refl
last_apart n (m ∷ ms) (suc i) h = ap (λ (t : Bool). same m n || t) (last_apart n ms i (omega arith)) ∙ or_swap (same m n) (same (get_or ms i []) n) (among n (take i ms))

pub one_met : (w : Bool) (n : List ℕ) (ms : List (List ℕ)) (i : ℕ) → 0 < i → i ≤ length ms
    → ((w || same (get_or ms (i - 1) []) n) || among n (take (i - 1) ms)) ≡ (w || among n (take i ms))
one_met w n ms i h k =
    let e : suc (i - 1) ≡ i = omega arith in
    or_assoc w _ _ ∙ ap (λ (t : Bool). w || t) (sym (last_apart n ms (i - 1) (omega arith)) ∙ ap (λ (j : ℕ). among n (take j ms)) e)

pub none_left : (w : Bool) (n : List ℕ) (ms : List (List ℕ)) (i : ℕ) → i ≡ 0 → (w || among n (take i ms)) ≡ w
unfolding among
none_left w n ms i e = rw e (or-false w)

-- ---- the class
pub class_long : (field : List ℕ) → (length field ≡ 1 → ⊥) → 0 ≡ class_of field
unfolding class_of same pick
class_long [] h = refl
class_long (x ∷ []) h = absurd (h refl)
class_long (x ∷ y ∷ field) h = rw (and-false (eqb x 0x44), and-false (eqb x 0x4C)) refl

pub class_44 : (field : List ℕ) → length field ≡ 1 → get_or field 0 0 ≡ 0x44 → 0x44 ≡ class_of field
unfolding class_of same pick
class_44 [] h e = absurd (omega arith)
class_44 (x ∷ []) h e = rw (eq-eqb x 0x44 e) refl
class_44 (x ∷ y ∷ field) h e = absurd (omega arith)

pub class_4c : (field : List ℕ) → length field ≡ 1 → get_or field 0 0 ≡ 0x4C → 0x4C ≡ class_of field
unfolding class_of same pick
class_4c [] h e = absurd (omega arith)
class_4c (x ∷ []) h e = rw (ne_eqb x 0x44 (λ z. omega arith), eq-eqb x 0x4C e) refl
class_4c (x ∷ y ∷ field) h e = absurd (omega arith)

pub class_0 : (field : List ℕ) → length field ≡ 1 → (get_or field 0 0 ≡ 0x44 → ⊥) → (get_or field 0 0 ≡ 0x4C → ⊥) → 0 ≡ class_of field
unfolding class_of same pick
class_0 [] h e f = absurd (omega arith)
class_0 (x ∷ []) h e f = rw (ne_eqb x 0x44 e, ne_eqb x 0x4C f) refl
class_0 (x ∷ y ∷ field) h e f = absurd (omega arith)

-- a class of the code has a byte
pub byte_other : (c : Class) → byte_of c ≡ 0 → ⊥
byte_other Drill e = absurd (omega (arith, e))
byte_other Live e = absurd (omega (arith, e))

-- ---- a number more
pub room_left : (n : List ℕ) (d : Desk) (k : ℕ) → (d.count ≡ 64 → ⊥) → d.count ≤ 64 → k ≡ 16 → length d.numbers ≡ 1024 → length n ≡ 16
    → desk_of (d.count + 1) (put_mid (16 * d.count) k d.numbers n) ≡ appended n d
unfolding appended pick
room_left n d k other few e long sixteen =
    let l : d.count < 64 = omega (arith, other) in
    let i = 16 * d.count in
    let put : put_mid i k d.numbers n ≡ sets d.numbers i n =
    put_mid-paste i k d.numbers n n (length n) refl (sixteen ∙ sym e) refl
    ∙ ap (λ (m : List ℕ). take i d.numbers ++ m ++ drop (i + length n) d.numbers) (take-length n) ∙ sym (sets-eq n d.numbers i (omega arith)) in
    rw (lt-ltb d.count 64 l) (ap (desk_of (d.count + 1)) put)

-- all but the oldest, and the newest behind them
moved : (n ns : List ℕ) → length ns ≡ 1024 → put_mid 1008 16 (copy_within ns 16 1024 0) n ≡ drop 16 ns ++ n
moved n ns h =
    let rest = drop 16 ns in
    let long : 1008 ≡ length rest = omega (arith, length-drop 16 ns) in
    let all = rest ++ drop 1008 ns in
    let e : copy_within ns 16 1024 0 ≡ all = ap (λ (m : List ℕ). m ++ drop 1008 ns) (ap (λ (k : ℕ). take k rest) long ∙ take-length rest) in
    let front : take 1008 all ≡ rest = ap (λ (k : ℕ). take k all) long ∙ take-append_seam rest (drop 1008 ns) in
    let size : length all ≡ length rest + length (drop 1008 ns) = length-append rest (drop 1008 ns) in
    let past : drop 16 (drop 1008 all) ≡ [] = drop_of_length-le (drop 1008 all) {i = 16} (omega (arith, length-drop 1008 all, length-drop 1008 ns)) in
    ap (λ (m : List ℕ). put_mid 1008 16 m n) e ∙ ap₂ (λ (a b : List ℕ). a ++ (n ++ b)) front past ∙ ap (λ (m : List ℕ). rest ++ m) (append-nil n)

pub no_room : (n : List ℕ) (d : Desk) (ms ns : List ℕ) → d.count ≡ 64 → length d.numbers ≡ 1024 → ms ≡ copy_within d.numbers 16 (length d.numbers) 0 → ns ≡ n
    → desk_of d.count (put_mid 1008 16 ms ns) ≡ appended n d
unfolding appended pick
no_room n d ms ns h a b e =
    rw (e, le-ltb d.count 64 (omega arith)) (ap (desk_of d.count) (ap (λ (m : List ℕ). put_mid 1008 16 m n) (b ∙ ap (λ (k : ℕ). copy_within d.numbers 16 k 0) a) ∙ moved n d.numbers a))
