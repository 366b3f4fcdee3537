-- The laws of the meaning that stores and the code above them reason by: what reads back after a cell is put or removed,
-- and how that changes the count.
use Rattle.std.specs.Prelude.{◌≡◌, ℕ, ◌+◌, ◌≤◌, Some, ◌≢◌}
use Rattle.cells.specs.declared.words.Words.{Words}
use Rattle.cells.specs.Cells.{Map, last_number, Held, Unheld, Numbered, empty, put, without, count}

-- a cell that was put reads back at its number
abbrev pub PutReadsBack : Type 0
PutReadsBack = (m : Map) (k : ℕ) (words : Words) → put m k words k ≡ Some words

-- and every other number reads as before
abbrev pub PutLeavesTheRest : Type 0
PutLeavesTheRest = (m : Map) (k : ℕ) (words : Words) (j : ℕ) → (j ≢ k) → put m k words j ≡ m j

-- a number that was removed reads as none
abbrev pub RemovalReadsNone : Type 0
RemovalReadsNone = (m : Map) (k : ℕ) → Unheld (without m k) k

-- and every other number reads as before
abbrev pub RemovalLeavesTheRest : Type 0
RemovalLeavesTheRest = (m : Map) (k j : ℕ) → (j ≢ k) → without m k j ≡ m j

-- removing what was put where nothing was held restores the map
abbrev pub RemovalUndoesPut : Type 0
RemovalUndoesPut = (m : Map) (k : ℕ) (words : Words) → Unheld m k → without (put m k words) k ≡ m

-- where nothing is held, the count is 0
abbrev pub EmptyCountsNone : Type 0
EmptyCountsNone = count empty ≡ 0

-- a cell put where none was held counts one more
abbrev pub PutCountsOneMore : Type 0
PutCountsOneMore = (m : Map) (k : ℕ) (words : Words) → k ≤ last_number → Unheld m k → count (put m k words) ≡ count m + 1

-- a held cell removed counts one less
abbrev pub RemovalCountsOneLess : Type 0
RemovalCountsOneLess = (m : Map) (k : ℕ) → k ≤ last_number → Held m k → count (without m k) + 1 ≡ count m

-- only numbers from 1 to the last can be held
abbrev pub HeldAreNumbered : Type 0
HeldAreNumbered = (m : Map) (k : ℕ) → Numbered m → Held m k → (1 ≤ k) × (k ≤ last_number)

-- all of them
pub record Laws : Type 0 where
  pub put_reads_back : PutReadsBack
  pub put_leaves_the_rest : PutLeavesTheRest
  pub removal_reads_none : RemovalReadsNone
  pub removal_leaves_the_rest : RemovalLeavesTheRest
  pub removal_undoes_put : RemovalUndoesPut
  pub empty_counts_none : EmptyCountsNone
  pub put_counts_one_more : PutCountsOneMore
  pub removal_counts_one_less : RemovalCountsOneLess
  pub held_are_numbered : HeldAreNumbered
