-- A keeper made of the start bytes that stand before a journal's records.
use mathlib.Core.Path.{◌≡◌, sym, ap, ◌∙◌}
use mathlib.Core.List.{List, []}
use Prim.Native.Nat.{ℕ, ◌-◌}
use lib.ListN.{length, take, drop}
use Rattle.ledger.specs.Sizes.{start_bytes}
use Rattle.ledger.specs.declared.Answer.{Answer}
use Rattle.journal.specs.Header.{records_begin, header_of, start_of}
use Rattle.journal.specs.Found.{Heading}
use Rattle.journal.proofs.GoodHeader.{heading_good}
use Rattle.journal.proofs.Laws.{start_48}
use Rattle.keeper.specs.Record.{Outcome, fresh}
use Rattle.keeper.specs.declared.Keeper.{Keeper}
use Rattle.keeper.proofs.Refusals.{making_48}
use Rattle.steps.specs.Promise.{Left, left, leaves_made}

-- of a good header, as it was found: where the records begin, and the fresh keeper of the journal's start bytes
module _ (j : List ℕ) (k k' : Keeper) (a : Answer) (start : List ℕ) (h : Heading) (e : h ≡ header_of j) (z : h.number ≡ 0)
    (es : start ≡ take start_bytes (drop (h.place - start_bytes) j)) (l : left k' a [] ≡ leaves_made k start) where
  pub good : (header_of j).number ≡ 0
  good = sym (ap (λ (x : Heading). x.number) e) ∙ z

  pub begins : h.place ≡ records_begin
  begins = ap (λ (x : Heading). x.place) (e ∙ heading_good j good)

  pub made_fresh : k' ≡ fresh (start_of j)
  unfolding leaves_made start_of
  made_fresh =
      let s : start ≡ start_of j = rw begins at es in
      ap (λ (x : Left). x.keeper) l ∙ ap (λ (o : Outcome). o.keeper) (making_48 start k (ap length s ∙ start_48 j good)) ∙ ap fresh s
