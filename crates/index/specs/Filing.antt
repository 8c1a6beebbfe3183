-- The index as a file: the letters N, K, I, the version, the counts of the kinds, the sum, and the places that are used, every number little
-- endian and of four bytes, but for the version's two. Nothing stands behind them.
use Rattle.std.specs.Prelude.{ℕ, ◌+◌, ◌/◌, List, ◌∷◌, ◌++◌, take}
use Rattle.words.specs.Bytes.{le_bytes, words_bytes}
use Rattle.journal.specs.Layout.{sum}
use Rattle.index.specs.Summary.{every}
use Rattle.index.specs.declared.summary.Index.{Index}

-- a place for every 64 records that were begun
unfoldable pub used : List ℕ → ℕ
used kinds = (sum kinds + 63) / every

-- 78, 75, 73 are the letters
unfoldable pub file_of : Index → List ℕ
file_of ix = 78 ∷ 75 ∷ 73 ∷ (le_bytes 2 1 ++ words_bytes (ix.kinds ++ (ix.reads ∷ take (used ix.kinds) ix.places)))
