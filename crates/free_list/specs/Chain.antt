-- The chain of the free cells: from its head, first words lead through every free cell, once, to 0.
use Rattle.std.specs.Prelude.{◌≡◌, ℕ, ◌+◌, ◌<◌, ◌≤◌, false, ◌⊎◌, List, [], ◌∷◌, length, ◌≢◌}
use Rattle.cells.specs.Cells.{count}
use Rattle.free_list.specs.declared.lent.LentCell.{LentCell}
use Rattle.free_list.specs.Lent.{cell_at, lent_capacity, number_at, lent_cells}

-- a place is among some places
abbrev pub Among : ℕ → List ℕ → Type 0
Among place [] = ⊥
Among place (other ∷ rest) = (place ≡ other) ⊎ Among place rest

-- it is not among them
abbrev pub Absent : ℕ → List ℕ → Type 0
Absent place [] = Unit {0}
Absent place (other ∷ rest) = (place ≢ other) × Absent place rest

-- the first word of the cell at a place
abbrev pub first_word : List LentCell → ℕ → ℕ
first_word lent place = (cell_at lent place).words.element

-- a number leads to a place, where a free cell stands
pub record Leads (lent : List LentCell) (number place : ℕ) : Type 0 where
  pub its_number : number ≡ place + 1
  pub inside : place < lent_capacity lent
  pub unmarked : (cell_at lent place).held ≡ false

-- from a number, first words lead through these places in this order, to each once, and then to 0
abbrev pub Chain : List LentCell → ℕ → List ℕ → Type 0
Chain lent number [] = number ≡ 0
Chain lent number (place ∷ rest) = Leads lent number place × Absent place rest × Chain lent (first_word lent place) rest

-- what every call of a free list keeps: a chain from the first free cell through all of them, and how many cells are held
pub record InOrder (lent : List LentCell) (first taken : ℕ) : Type 0 where
  pub places : List ℕ
  pub chain : Chain lent first places
  pub every_free : (place : ℕ) → place < lent_capacity lent → (cell_at lent place).held ≡ false → Among place places
  pub others_held : length places + taken ≡ lent_capacity lent
  pub counted : taken ≡ count (lent_cells lent)

-- a cell as it is left when it is free: another first word, its other words as they were
abbrev pub freed_cell : LentCell → ℕ → LentCell
freed_cell cell next = record { words = record { element = next; tail = cell.words.tail; third = cell.words.third }; held = false }

-- lent cells before and after all of them are chained: each is free and its first word is the number of the next, 0 in the
-- last; its other words stay, and so do the cells beyond the capacity
pub record Rising (lent lent_after : List LentCell) (first : ℕ) : Type 0 where
  pub same_length : length lent_after ≡ length lent
  pub starts : first ≡ number_at 0 (lent_capacity lent)
  pub rises : (place : ℕ) → place < lent_capacity lent → cell_at lent_after place ≡ freed_cell (cell_at lent place) (number_at (place + 1) (lent_capacity lent))
  pub stays : (place : ℕ) → lent_capacity lent ≤ place → cell_at lent_after place ≡ cell_at lent place
