-- Rows of slots whose lists have the numbers of their cells: slots of a frame, or entries of an input stack. Rests on located
-- values.
use Rattle.std.specs.Prelude.{ℕ, ◌+◌, List, [], ◌∷◌, map, Some, None, Option, slice_index_or, slice_set}
use Rattle.records.specs.declared.kinds.NodeType.{NodeType}
use Rattle.cells.specs.Cells.{Map}
use Rattle.rules.specs.Types.{type_of}
use Rattle.rules.specs.Branches.{ListType}
use Rattle.plain.specs.Values.{Value, num, HasType}
use Rattle.plain.specs.Slots.{Slots}
use Rattle.standing.specs.declared.frames.Slot.{Slot}
use Rattle.standing.specs.declared.frames.Slot.TheVariants.{Vacant, Number, ListOf}
use Rattle.standing.specs.Located.{Located, value, word, Stored, occurrences}

-- a slot: nothing, a number, or a list with its type number
pub data LocatedSlot : Type 0 where
  vacant : LocatedSlot
  with_number : ℕ → LocatedSlot
  with_list : ℕ → Located → LocatedSlot

abbrev pub Row : Type 0
Row = List LocatedSlot

-- what slot i has
abbrev pub located_in : Row → ℕ → LocatedSlot
located_in R i = slice_index_or R i vacant

-- as an engine has it
abbrev pub slot_words : LocatedSlot → Slot
slot_words vacant = Vacant
slot_words (with_number n) = Number n
slot_words (with_list t x) = ListOf (word x) t

abbrev pub row_words : Row → List Slot
row_words R = map slot_words R

-- as the plain reading has it
abbrev pub slot_value : LocatedSlot → Option Value
slot_value vacant = None
slot_value (with_number n) = Some (num n)
slot_value (with_list t x) = Some (value x)

abbrev pub row_values : Row → Slots
row_values R = map slot_value R

-- what a use leaves in a slot: a list goes, a number stays
abbrev pub left_located : LocatedSlot → LocatedSlot
left_located vacant = vacant
left_located (with_number n) = with_number n
left_located (with_list t x) = vacant

-- the row after a use of slot i
abbrev pub used_located : Row → ℕ → Row
used_located R i = slice_set R i (left_located (located_in R i))

-- how many nodes of a slot, and of a row, are in the cell c
abbrev pub slot_occurrences : ℕ → LocatedSlot → ℕ
slot_occurrences c vacant = 0
slot_occurrences c (with_number n) = 0
slot_occurrences c (with_list t x) = occurrences c x

abbrev pub row_occurrences : ℕ → Row → ℕ
row_occurrences c [] = 0
row_occurrences c (x ∷ R) = slot_occurrences c x + row_occurrences c R

-- a list has the list type with its number, and its nodes are stored
pub data Kept (ts : List NodeType) (m : Map) : LocatedSlot → Type 0 where
  kept_vacant : Kept ts m vacant
  kept_number : {n : ℕ} → Kept ts m (with_number n)
  kept_list : {t : ℕ} {x : Located} → ListType ts t → HasType (type_of ts t) (value x) → Stored m x → Kept ts m (with_list t x)

pub data KeptRow (ts : List NodeType) (m : Map) : Row → Type 0 where
  kept_none : KeptRow ts m []
  kept_more : {x : LocatedSlot} {R : Row} → Kept ts m x → KeptRow ts m R → KeptRow ts m (x ∷ R)
