-- What lent cells mean to a free list: how many of them it uses, and which are held. Assumes nothing.
use Rattle.std.specs.Prelude.{◌≡◌, ℕ, zero, suc, ◌+◌, ◌<◌, min, true, false, cond, List, length, Some, None, Option, nat_lt, slice_index_or}
use Rattle.cells.specs.declared.words.Words.{Words}
use Rattle.cells.specs.Cells.{Map, last_number, Unheld}
use Rattle.free_list.specs.declared.lent.LentCell.{LentCell}

-- what stands past the last lent cell
abbrev pub no_cell : LentCell
no_cell = record { words = record { element = 0; tail = 0; third = 0 }; held = false }

-- the lent cell at a place, counted from 0
abbrev pub cell_at : List LentCell → ℕ → LentCell
cell_at lent place = slice_index_or lent place no_cell

-- how many of the lent cells are used: all, or as many as there are numbers
abbrev pub lent_capacity : List LentCell → ℕ
lent_capacity lent = min (length lent) last_number

-- the number of the cell at a place, where the places end at a capacity; 0 past the last
abbrev pub number_at : ℕ → ℕ → ℕ
number_at place capacity = cond (nat_lt place capacity) (place + 1) 0

-- the words of a cell whose mark is set
abbrev pub shown : LentCell → Option Words
shown cell = cond cell.held (Some cell.words) None

-- the held cells by number. The mark of a cell past the last number says nothing
abbrev pub lent_cells : List LentCell → Map
lent_cells lent zero = None
lent_cells lent (suc place) = cond (nat_lt place last_number) (shown (cell_at lent place)) None

-- where a held cell stands
pub record HeldAt (lent : List LentCell) (number place : ℕ) : Type 0 where
  pub its_number : number ≡ place + 1
  pub inside : place < lent_capacity lent
  pub marked : (cell_at lent place).held ≡ true

-- what a search for the place of a number answers
abbrev pub Sought : List LentCell → ℕ → Option ℕ → Type 0
Sought lent number (Some place) = HeldAt lent number place
Sought lent number None = Unheld (lent_cells lent) number
