use Rattle.std.proofs.Common.{◌≡◌, ℕ, ◌+◌, ◌<◌, ◌≤◌}
use Rattle.free_list.specs.Lent.{cell_at, number_at}
use Rattle.free_list.specs.Chain.{freed_cell}
use Rattle.free_list.proofs.list.link_all.Given as goal

-- the cells before the place are chained, and all others are as they were
abbrev pub invariant-loop-place : goal.invariant-loop-place
invariant-loop-place l = record {
  chained : (k : ℕ) → k < l.place → cell_at l.cell-items k ≡ freed_cell (cell_at l.initial.cell-items k) (number_at (k + 1) l.capacity);
  untouched : (k : ℕ) → l.place ≤ k → cell_at l.cell-items k ≡ cell_at l.initial.cell-items k;
}
