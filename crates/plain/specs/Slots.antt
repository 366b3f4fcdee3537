-- The slots of a frame, each of which is empty or has a value. Rests on values.
use Rattle.std.specs.Prelude.{ℕ, ◌+◌, List, [], ◌∷◌, replicate, Some, None, Option, slice_index_or, slice_set}
use Rattle.rules.specs.Limits.{slot_count}
use Rattle.plain.specs.Values.{Value, num, empty, node, nodes}

abbrev pub Slots : Type 0
Slots = List (Option Value)

-- what slot i has
abbrev pub value_in : Slots → ℕ → Option Value
value_in S i = slice_index_or S i None

-- what a use leaves in a slot: a list goes, a number stays
abbrev pub left_value : Option Value → Option Value
left_value None = None
left_value (Some (num n)) = Some (num n)
left_value (Some empty) = None
left_value (Some (node h l)) = None

-- the slots after a use of slot i
abbrev pub after_use : Slots → ℕ → Slots
after_use S i = slice_set S i (left_value (value_in S i))

-- the slots with this value in slot d
abbrev pub put : Slots → ℕ → Value → Slots
put S d v = slice_set S d (Some v)

-- the slots with these values in the slots from i upward
abbrev pub put_from : ℕ → List Value → Slots → Slots
put_from i [] S = S
put_from i (v ∷ vs) S = put_from (i + 1) vs (put S i v)

-- the slots with which a function starts: its arguments in slots 0 upward, the others empty
abbrev pub starting_slots : List Value → Slots
starting_slots vs = put_from 0 vs (replicate slot_count None)

-- the nodes in a slot, and in all slots
abbrev pub slot_nodes : Option Value → ℕ
slot_nodes None = 0
slot_nodes (Some v) = nodes v

abbrev pub slots_nodes : Slots → ℕ
slots_nodes [] = 0
slots_nodes (x ∷ xs) = slot_nodes x + slots_nodes xs
