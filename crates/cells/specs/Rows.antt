-- How the marks and rows of a pool stand for its cells, which a pool's invariant speaks of.
use Rattle.std.specs.Prelude.{ℕ, zero, suc, Bool, cond, List, Some, None, Option, slice_index_or}
use Rattle.bits.specs.Flags.{flag}
use Rattle.cells.specs.declared.words.Words.{Words}
use Rattle.cells.specs.Cells.{Map}

-- how many cells a pool has
abbrev pub pool_capacity : ℕ
pool_capacity = 1024

-- the words of a cell that is not in use
abbrev pub no_words : Words
no_words = record { element = 0; tail = 0; third = 0 }

-- the cell at a place, counted from 0: held where its mark is set
abbrev pub at_place : List Bool → List Words → ℕ → Option Words
at_place marks rows place = cond (flag marks place) (Some (slice_index_or rows place no_words)) None

-- numbers count from 1
abbrev pub numbered_from_one : List Bool → List Words → Map
numbered_from_one marks rows zero = None
numbered_from_one marks rows (suc place) = at_place marks rows place
