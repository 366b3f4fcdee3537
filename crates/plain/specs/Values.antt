-- Values, the nodes that they are made of, and what they bring along at a type. Rests on types.
use Rattle.std.specs.Prelude.{ℕ, ◌+◌, List, [], ◌∷◌}
use Rattle.rules.specs.Types.{Ty, number, list}

-- a Number, the empty list, or a node of an element and a tail
pub data Value : Type 0 where
  num : ℕ → Value
  empty : Value
  node : Value → Value → Value

-- the nodes of a value, those of inner lists too
abbrev pub nodes : Value → ℕ
nodes (num n) = 0
nodes empty = 0
nodes (node h l) = 1 + nodes h + nodes l

abbrev pub all_nodes : List Value → ℕ
all_nodes [] = 0
all_nodes (v ∷ vs) = nodes v + all_nodes vs

-- what a value brings along at a type: nothing for a Number; for a list, summed over its nodes, the amount of the type and what
-- the element brings along
abbrev pub potential : Ty → Value → ℕ
potential t (num n) = 0
potential t empty = 0
potential number (node h l) = 0
potential (list e a) (node h l) = a + potential e h + potential (list e a) l

abbrev pub all_potential : List Ty → List Value → ℕ
all_potential ts [] = 0
all_potential [] (v ∷ vs) = 0
all_potential (t ∷ ts) (v ∷ vs) = potential t v + all_potential ts vs

-- a value has a type: a number is a Number, and every element of a list has its element type
pub data HasType : Ty → Value → Type 0 where
  is_num : {n : ℕ} → HasType number (num n)
  is_empty : {e : Ty} {a : ℕ} → HasType (list e a) empty
  is_node : {e : Ty} {a : ℕ} {h l : Value} → HasType e h → HasType (list e a) l → HasType (list e a) (node h l)

-- values have these types, one each
pub data HaveTypes : List Ty → List Value → Type 0 where
  no_values : HaveTypes [] []
  one_value : {t : Ty} {v : Value} {ts : List Ty} {vs : List Value} → HasType t v → HaveTypes ts vs → HaveTypes (t ∷ ts) (v ∷ vs)
