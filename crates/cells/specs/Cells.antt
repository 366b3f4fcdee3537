-- What a store means: which cells are held and the words of each, by their numbers; how many that are; how many are free.
-- Assumes nothing.
use Rattle.std.specs.Prelude.{◌≡◌, ℕ, zero, suc, ◌+◌, ◌-◌, ◌<◌, true, cond, is_some, Some, None, Option, ◌==◌}
use Rattle.cells.specs.declared.words.Words.{Words}

-- the highest number that a cell can have; the lowest is 1
abbrev pub last_number : ℕ
last_number = 65535

-- the words of each held cell, by its number; none for a number that is not held
abbrev pub Map : Type 0
Map = ℕ → Option Words

-- no cell is held
abbrev pub empty : Map
empty = λ number. None

-- the map with something else at one number
unfoldable pub update : Map → ℕ → Option Words → Map
update m k entry = λ number. cond (number == k) entry (m number)

-- the map with a cell held at k
abbrev pub put : Map → ℕ → Words → Map
put m k words = update m k (Some words)

-- the map with no cell held at k
abbrev pub without : Map → ℕ → Map
without m k = update m k None

-- a cell with this number is held
abbrev pub Held : Map → ℕ → Type 0
Held m k = is_some (m k) ≡ true

-- no cell with this number is held
abbrev pub Unheld : Map → ℕ → Type 0
Unheld m k = m k ≡ None

-- only numbers from 1 to the last are ever held
pub record Numbered (m : Map) : Type 0 where
  pub not_zero : Unheld m 0
  pub not_above : (k : ℕ) → last_number < k → Unheld m k

-- what one entry adds to the count
abbrev pub one_if : Option Words → ℕ
one_if None = 0
one_if (Some words) = 1

-- how many of the numbers below n are held
unfoldable pub count_below : Map → ℕ → ℕ
count_below m zero = 0
count_below m (suc n) = count_below m n + one_if (m n)

-- how many cells are held
unfoldable pub count : Map → ℕ
count m = count_below m (last_number + 1)

-- how many more cells a store of this capacity can hold
abbrev pub free : ℕ → Map → ℕ
free capacity m = capacity - count m
