-- Values whose nodes have the numbers of their cells: what the words of an engine and the plain values have in common.
-- Rests on values and on the meaning of a store.
use Rattle.std.specs.Prelude.{◌≡◌, ℕ, ◌+◌, ◌≤◌, cond, Some, ◌==◌}
use Rattle.cells.specs.declared.words.Words.{Words}
use Rattle.cells.specs.Cells.{Map}
use Rattle.plain.specs.Values.{Value, num, empty, node}

-- a number, the empty list, or a node in the cell with this number
pub data Located : Type 0 where
  a_number : ℕ → Located
  no_node : Located
  in_cell : ℕ → Located → Located → Located

-- the value that it is
abbrev pub value : Located → Value
value (a_number n) = num n
value no_node = empty
value (in_cell c x y) = node (value x) (value y)

-- the word that stands for it: a number itself, 0 for the empty list, the number of its first node's cell for any other
abbrev pub word : Located → ℕ
word (a_number n) = n
word no_node = 0
word (in_cell c x y) = c

-- the words of a node's cell: element, tail and 0
abbrev pub node_words : ℕ → ℕ → Words
node_words element tail = record { element = element; tail = tail; third = 0 }

-- each node's cell is held with the node's words
pub data Stored (m : Map) : Located → Type 0 where
  stored_number : {n : ℕ} → Stored m (a_number n)
  stored_none : Stored m no_node
  stored_node : {c : ℕ} {x y : Located} → 1 ≤ c → m c ≡ Some (node_words (word x) (word y)) → Stored m x → Stored m y → Stored m (in_cell c x y)

-- 1 where two numbers are the same
abbrev pub one_where_same : ℕ → ℕ → ℕ
one_where_same c k = cond (c == k) 1 0

-- how many of its nodes are in the cell c
abbrev pub occurrences : ℕ → Located → ℕ
occurrences c (a_number n) = 0
occurrences c no_node = 0
occurrences c (in_cell k x y) = one_where_same c k + occurrences c x + occurrences c y
