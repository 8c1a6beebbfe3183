use Prim.Native.Nat.{ℕ, ◌<◌}
use mathlib.Core.Path.{◌≡◌, ◌∙◌, sym}
use native.Mathlib.Omega.{arith}
use borrow.Author.Rules.{rules}
use lib.ListN.{length}
use Rattle.std.proofs.lemmas.Grind.{same_number_lists}
use Rattle.transcript.proofs.Writing.{adds_then}
use Rattle.listing.specs.Listing.{sums_text}
use Rattle.listing.proofs.totals.sums.Goals as goal

-- each count is the same number in the longer type
pub returns-clause-put : goal.returns-clause-put
unfolding sums_text
returns-clause-put c =
    let same : c.map.result ≡ c.args.kinds.now =
    same_number_lists _ _ (c.map.ensures.items.long ∙ sym c.told-kinds)
    (λ (k : ℕ) (h : k < length c.map.result). (let m = c.map.ensures.items.at k 0 0 (omega (arith, c.map.ensures.items.long)) in search rules)) in
    rw (← c.records.ensures, ← same) (adds_then c.line.ensures.put (adds_then c.line-2.ensures.put c.line-3.ensures.put))
