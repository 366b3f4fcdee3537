-- Types, the numbers that a sheet gives them, and covering. Assumes nothing.
use Rattle.std.specs.Prelude.{ℕ, zero, suc, ◌-◌, ◌<◌, ◌≤◌, cond, List, ◌==◌, slice_index_or}
use Rattle.records.specs.declared.kinds.NodeType.{NodeType}

-- Number, or the lists with this element type and this amount for each node
pub data Ty : Type 0 where
  number : Ty
  list : Ty → ℕ → Ty

-- what a number without a type record stands for; no sheet of the right form uses it
abbrev pub no_record : NodeType
no_record = record { element = 0; amount = 0 }

-- the record of type number t: the type records are numbered from 1
abbrev pub type_record : List NodeType → ℕ → NodeType
type_record ts t = cond (t == 0) no_record (slice_index_or ts (t - 1) no_record)

-- the type with number t, its element types looked up at most `depth` deep
abbrev pub type_within : ℕ → List NodeType → ℕ → Ty
type_within zero ts t = number
type_within (suc depth) ts zero = number
type_within (suc depth) ts (suc t) =
    list (type_within depth ts (type_record ts (suc t)).element) (type_record ts (suc t)).amount

-- The type with number t. Type 0 is Number. An element type has a lower number, so t looks are enough.
abbrev pub type_of : List NodeType → ℕ → Ty
type_of ts t = type_within t ts t

-- each element type is Number or has a lower number than the type's own
abbrev pub ElementsLower : List NodeType → Type 0
ElementsLower ts = (t : ℕ) → 0 < t → (type_record ts t).element < t

-- s covers t: both are Number; or both are lists, the amount of s is at least that of t, and its element type covers the other's
pub data Covers : Ty → Ty → Type 0 where
  number_covers : Covers number number
  list_covers : {s t : Ty} {a b : ℕ} → b ≤ a → Covers s t → Covers (list s a) (list t b)
