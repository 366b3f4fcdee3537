-- What the meaning of the pool owes the interface: which numbers are held, that there are no more cells than numbers, and that no
-- more are held than there are. Rests on the places of a pool.
use Rattle.std.specs.Prelude.{◌≤◌}
use Rattle.std.proofs.Common.{arith}
use Rattle.cells.specs.declared.pool.Pool.{Pool}
use Rattle.cells.specs.Cells.{last_number, Numbered, count}
use Rattle.cells.specs.Rows.{pool_capacity}
use Rattle.cells.specs.Pool.{marks_of, pool_cells}
use Rattle.cells.specs.Places.{marks_long, numbers_held, count_within}

pub pool_small : pool_capacity ≤ last_number
pool_small = omega arith

pub pool_numbered : (pool : Pool) → Numbered (pool_cells pool)
pool_numbered pool = numbers_held (marks_of pool) pool.rows (omega (arith, marks_long pool))

pub pool_within : (pool : Pool) → count (pool_cells pool) ≤ pool_capacity
pool_within pool = count_within pool.marks pool.rows
