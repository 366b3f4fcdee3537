-- What a free list means, and what it promises beyond the interface: the number that a take answers, and what making and
-- the calls leave in the lent cells.
use Rattle.std.specs.Prelude.{◌≡◌, ℕ, ◌-◌, true, List, Some, None, Ok, Err, Option, Result, slice_set}
use Rattle.cells.specs.declared.words.Words.{Words}
use Rattle.cells.specs.declared.fault.StoreFault.{StoreFault}
use Rattle.cells.specs.Cells.{Map}
use Rattle.free_list.specs.declared.lent.LentCell.{LentCell}
use Rattle.free_list.specs.declared.list.FreeList.{FreeList}
use Rattle.free_list.specs.Lent.{cell_at, lent_capacity, lent_cells}
use Rattle.free_list.specs.Chain.{first_word, freed_cell, Rising}

-- the layer code of a free list
abbrev pub list_code : ℕ
list_code = 1

-- the lent cells as they stand
abbrev pub lent_to : FreeList → List LentCell
lent_to list = list.cells.now

-- the cells that are held
abbrev pub list_cells : FreeList → Map
list_cells list = lent_cells (lent_to list)

-- how many can be held
abbrev pub list_capacity : FreeList → ℕ
list_capacity list = lent_capacity (lent_to list)

-- making and clear: all cells are chained in rising order
abbrev pub Chained : List LentCell → FreeList → Type 0
Chained lent list = Rising lent (lent_to list) list.head

-- a call that writes nothing
pub record Untouched (before after : FreeList) : Type 0 where
  pub same_lent : lent_to after ≡ lent_to before
  pub same_head : after.head ≡ before.head

-- a cell as a take leaves it
abbrev pub marked_cell : Words → LentCell
marked_cell words = record { words = words; held = true }

-- the head is taken, and its first word is the next head; no other cell is written
pub record HeadTaken (before : FreeList) (words : Words) (number : ℕ) (after : FreeList) : Type 0 where
  pub the_head : number ≡ before.head
  pub one_written : lent_to after ≡ slice_set (lent_to before) (before.head - 1) (marked_cell words)
  pub next_head : after.head ≡ first_word (lent_to before) (before.head - 1)

-- the given cell is the head, with the number of the last head as its first word; no other cell is written
pub record HeadGiven (before : FreeList) (number : ℕ) (after : FreeList) : Type 0 where
  pub one_written : lent_to after ≡ slice_set (lent_to before) (number - 1) (freed_cell (cell_at (lent_to before) (number - 1)) before.head)
  pub the_head : after.head ≡ number

-- take: the head, or code 1
abbrev pub TookHead : FreeList → Words → Result ℕ StoreFault → FreeList → Type 0
TookHead before words (Ok number) after = HeadTaken before words number after
TookHead before words (Err fault) after = (fault.code ≡ list_code) × Untouched before after

-- give: to the head, or none
abbrev pub GaveToHead : FreeList → ℕ → Option (Unit {0}) → FreeList → Type 0
GaveToHead before number (Some done) after = HeadGiven before number after
GaveToHead before number None after = Untouched before after
