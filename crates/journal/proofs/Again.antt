-- A record that was read can be written again: in its own version, and a record of version 1 in version 2.
use mathlib.Core.Path.{◌≡◌, ap, ◌∙◌}
use mathlib.Core.List.{List, [], ◌∷◌}
use Prim.Native.Nat.{ℕ, suc, ◌+◌, ◌-◌, ◌*◌, ◌^◌, ◌≤◌, ◌<◌}
use native.Mathlib.Omega.{arith}
use lib.ListN.{length, get_or, take, drop, length-drop}
use lib.Pow.{pow-add}
use lib.Seq.{length-take-le, get_or-take, get_or-drop}
use Rattle.ledger.specs.Choice.{pick}
use Rattle.words.specs.Bytes.{le_number}
use Rattle.journal.specs.Layout.{device_bytes, widths, sum, kind_of, fields_of, carries}
use Rattle.journal.specs.Reading.{fields_in, read_at}
use Rattle.journal.specs.Walking.{walk}
use Rattle.journal.specs.Writing.{carried_by, Fit, Writable, said_at, said_in, AllWritable}
use Rattle.journal.specs.declared.records.Record.{Record}
use Rattle.journal.specs.declared.records.Record.TheVariants.{Event, Interrupt, Write, Seed, Read, BlockingRead}
use Rattle.journal.specs.Found.{One}
use Rattle.journal.proofs.Runs.{Bytes}
use Rattle.journal.proofs.Onward.{stands}
use Rattle.journal.proofs.Walks.{along_walk}
use Rattle.journal.proofs.Written.{kind_and_fields}

number_lt : (bs : List ℕ) → Bytes bs → le_number bs < 2 ^ (8 * length bs)
unfolding le_number
number_lt [] b = omega arith
number_lt (x ∷ bs) b =
    let h : x < 2 ^ 8 = b 0 (omega arith) in
    let i : le_number bs < 2 ^ (8 * length bs) = number_lt bs (λ i l. b (suc i) (omega arith)) in
    let e : 8 * suc (length bs) ≡ 8 + 8 * length bs = omega arith in
    let p : 2 ^ (8 + 8 * length bs) ≡ 2 ^ 8 * 2 ^ (8 * length bs) = pow-add 2 8 (8 * length bs) in
    rw (e, p) (omega arith)

fit_read : (ws bs : List ℕ) → sum ws ≤ length bs → Bytes bs → Fit ws (fields_in ws bs)
unfolding Fit fields_in sum
fit_read [] bs h b = tt
fit_read (w ∷ ws) bs h b =
    let l : length (take w bs) ≡ w = length-take-le w bs (omega arith) in
    let d : length (drop w bs) ≡ length bs - w = length-drop w bs in
    let n : le_number (take w bs) < 2 ^ (8 * length (take w bs)) = number_lt (take w bs) (λ i k. rw (get_or-take w bs i 0 (omega arith)) (b i (omega arith))) in
    (rw l at n, fit_read ws (drop w bs) (omega arith) (λ i k. rw (get_or-drop w bs i 0) (b (w + i) (omega arith))))

-- A RECORD THAT WAS READ can be written
pub read_writable : (v : ℕ) (j : List ℕ) (at : ℕ) (r : Record) (next : ℕ) → Bytes j → read_at v j at ≡ One r next → Writable v r (carried_by j r next)
unfolding carried_by
read_writable v j at r next b e =
    let s = stands v j at r next e in
    let w = s.whole in
    let k = get_or j at 0 in
    let bs = drop (suc at) j in
    let f = kind_and_fields v k bs w.known in
    let ek : kind_of r ≡ k = ap kind_of w.same ∙ f.0 in
    let ef : fields_of r ≡ fields_in (widths v k) bs = ap fields_of w.same ∙ f.1 in
    let l : length bs ≡ length j - suc at = length-drop (suc at) j in
    let t = w.there in
    let a = w.after in
    let d : length (drop (next - carries r) j) ≡ length j - (next - carries r) = length-drop (next - carries r) j in
    record {
      fields = rw (ek, ef) (fit_read (widths v k) bs (omega arith) (λ i h. rw (get_or-drop (suc at) j i 0) (b (suc at + i) (omega arith))));
      bytes = length-take-le (carries r) (drop (next - carries r) j) (omega (arith, s.within));
      few = w.few;
    }

-- and in version 2 if it can in version 1
wider : (r : Record) → Fit (widths 1 (kind_of r)) (fields_of r) → Fit (widths 2 (kind_of r)) (fields_of r)
unfolding Fit widths device_bytes kind_of fields_of pick
wider (Event now device stamp value) h = let d : device < 2 ^ (8 * 1) = h.1.0 in (h.0, (omega arith, h.1.1))
wider (Interrupt now number stamp address) h = h
wider (Write now len) h = h
wider (Seed now len credit) h = h
wider (Read now len) h = h
wider (BlockingRead now len) h = h

pub writable_wider : (r : Record) (carried : List ℕ) → Writable 1 r carried → Writable 2 r carried
writable_wider r carried w = record { fields = wider r w.fields; bytes = w.bytes; few = w.few }

-- ALL RECORDS OF A WALK in version 1 can be written in version 2
pub walk_wider : (j : List ℕ) → Bytes j → (at : ℕ) → AllWritable 2 (said_in j (walk 1 j at).entries)
unfolding AllWritable said_at
walk_wider j b =
    along_walk 1 j (λ at w. AllWritable 2 (said_in j w.entries))
    (λ at r next e on. (writable_wider r (carried_by j r next) (read_writable 1 j at r next b e), on))
    (λ at m. tt)
