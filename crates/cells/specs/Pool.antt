-- What a pool means, and what it promises beyond the interface: none held when it is made, the lowest free number, code 2.
use Rattle.std.specs.Prelude.{◌≡◌, ℕ, ◌<◌, ◌≤◌, Bool, true, false, List, Some, None, Ok, Err, Option, Result}
use Rattle.bits.specs.Flags.{flags}
use Rattle.cells.specs.declared.fault.StoreFault.{StoreFault}
use Rattle.cells.specs.declared.pool.Pool.{Pool}
use Rattle.cells.specs.Cells.{Map, Held, Unheld, free}
use Rattle.cells.specs.Rows.{pool_capacity, numbered_from_one}

-- the layer code of a pool
abbrev pub pool_code : ℕ
pool_code = 2

-- the marks of a pool, one for each cell
abbrev pub marks_of : Pool → List Bool
marks_of pool = flags pool.marks.words

-- the cells of a pool
abbrev pub pool_cells : Pool → Map
pool_cells pool = numbered_from_one (marks_of pool) pool.rows

-- the lowest number of a pool that is not held
pub record Lowest (m : Map) (number : ℕ) : Type 0 where
  pub from_one : 1 ≤ number
  pub in_pool : number ≤ pool_capacity
  pub unheld : Unheld m number
  pub held_below : (k : ℕ) → 1 ≤ k → k < number → Held m k

-- what a search for the lowest free number answers: one is found where there is room, and none where there is no room
abbrev pub SoughtLowest : Map → Option ℕ → Type 0
SoughtLowest m (Some number) = Lowest m number × (0 < free pool_capacity m)
SoughtLowest m None = free pool_capacity m ≡ 0

-- what a test for one number answers
abbrev pub ToldWhetherHeld : Map → ℕ → Bool → Type 0
ToldWhetherHeld m number true = Held m number
ToldWhetherHeld m number false = Unheld m number

-- a take from a pool: the lowest free number, or code 2
abbrev pub PoolTook : Map → Result ℕ StoreFault → Type 0
PoolTook m (Ok number) = Lowest m number
PoolTook m (Err fault) = fault.code ≡ pool_code
