-- What each call of a store answers and what it leaves behind. `m` and `capacity` are the store's meaning before the call,
-- `m_after` and `capacity_after` its meaning after it; the calls that only look leave the store as it is. How the count
-- changes follows from the map; it is said as well, so that no caller has to count again.
use Rattle.std.specs.Prelude.{◌≡◌, ℕ, ◌+◌, ◌<◌, ◌≤◌, Some, None, Ok, Err, Option, Result}
use Rattle.cells.specs.declared.words.Words.{Words}
use Rattle.cells.specs.declared.fault.StoreFault.{StoreFault}
use Rattle.cells.specs.Cells.{Map, last_number, Held, Unheld, empty, put, without, count, free}

-- free: the capacity less the number held
abbrev pub ToldFree : Map → ℕ → ℕ → Type 0
ToldFree m capacity answer = answer ≡ free capacity m

-- held: how many cells are held
abbrev pub ToldHeld : Map → ℕ → Type 0
ToldHeld m answer = answer ≡ count m

-- read: the words of a held cell, or none for any other number
abbrev pub Read : Map → ℕ → Option Words → Type 0
Read m number answer = answer ≡ m number

-- a take that finds room: an unheld number is held from then on with the given words
pub record Placed (m : Map) (capacity : ℕ) (words : Words) (number : ℕ) (m_after : Map) (capacity_after : ℕ) : Type 0 where
  pub room : 0 < free capacity m
  pub from_one : 1 ≤ number
  pub to_the_last : number ≤ last_number
  pub unheld : Unheld m number
  pub now_held : m_after ≡ put m number words
  pub one_more : count m_after ≡ count m + 1
  pub same_capacity : capacity_after ≡ capacity

-- a take that finds none: refused with the store's layer code
pub record Refused (m : Map) (capacity code : ℕ) (fault : StoreFault) (m_after : Map) (capacity_after : ℕ) : Type 0 where
  pub no_room : free capacity m ≡ 0
  pub its_code : fault.code ≡ code
  pub least_code : 1 ≤ fault.code
  pub greatest_code : fault.code ≤ 255
  pub same_cells : m_after ≡ m
  pub same_capacity : capacity_after ≡ capacity

-- take: placed or refused. `code` is the layer code with which the store refuses as it stands
abbrev pub Took : Map → ℕ → ℕ → Words → Result ℕ StoreFault → Map → ℕ → Type 0
Took m capacity code words (Ok number) m_after capacity_after = Placed m capacity words number m_after capacity_after
Took m capacity code words (Err fault) m_after capacity_after = Refused m capacity code fault m_after capacity_after

-- a give of a held cell: it is held no longer
pub record Ended (m : Map) (capacity number : ℕ) (m_after : Map) (capacity_after : ℕ) : Type 0 where
  pub was_held : Held m number
  pub now_unheld : m_after ≡ without m number
  pub one_less : count m_after + 1 ≡ count m
  pub same_capacity : capacity_after ≡ capacity

-- a give of any other number: nothing changes
pub record NotHeld (m : Map) (capacity number : ℕ) (m_after : Map) (capacity_after : ℕ) : Type 0 where
  pub was_unheld : Unheld m number
  pub same_cells : m_after ≡ m
  pub same_capacity : capacity_after ≡ capacity

-- give: done, or none
abbrev pub Gave : Map → ℕ → ℕ → Option (Unit {0}) → Map → ℕ → Type 0
Gave m capacity number (Some done) m_after capacity_after = Ended m capacity number m_after capacity_after
Gave m capacity number None m_after capacity_after = NotHeld m capacity number m_after capacity_after

-- clear: no cell is held
pub record Cleared (capacity : ℕ) (m_after : Map) (capacity_after : ℕ) : Type 0 where
  pub none_held : m_after ≡ empty
  pub none_counted : count m_after ≡ 0
  pub same_capacity : capacity_after ≡ capacity
