-- Contexts, in which each slot is empty or has a type, and what a step does to one. Rests on types.
use Rattle.std.specs.Prelude.{◌≡◌, ℕ, ◌+◌, List, [], ◌∷◌, replicate, Some, None, Option, slice_index_or, slice_set}
use Rattle.rules.specs.Limits.{slot_count}
use Rattle.rules.specs.Types.{Ty, number, list, Covers}

-- what each slot has, from slot 0 on: nothing, or a value of this type
abbrev pub Context : Type 0
Context = List (Option Ty)

-- what slot i has
abbrev pub in_slot : Context → ℕ → Option Ty
in_slot Γ i = slice_index_or Γ i None

-- what a use leaves in a slot: a list goes, a Number stays
abbrev pub left_of : Option Ty → Option Ty
left_of None = None
left_of (Some number) = Some number
left_of (Some (list e a)) = None

-- the context after a use of slot i
abbrev pub used : Context → ℕ → Context
used Γ i = slice_set Γ i (left_of (in_slot Γ i))

-- the context in which slot d is bound to a value of type t
abbrev pub bound : Context → ℕ → Ty → Context
bound Γ d t = slice_set Γ d (Some t)

-- slot i may be used where the type t is wanted: it is filled, and its type covers t
pub record Uses (Γ : Context) (i : ℕ) (t : Ty) : Type 0 where
  pub of : Ty
  pub has : in_slot Γ i ≡ Some of
  pub covering : Covers of t

-- a slot that is empty or has a Number
pub data NoList : Option Ty → Type 0 where
  is_vacant : NoList None
  is_number : NoList (Some number)

-- slot d may be bound
abbrev pub Binds : Context → ℕ → Type 0
Binds Γ d = NoList (in_slot Γ d)

-- Passes Γ slots ts Δ: these slots are used for parameters of these types, one after the other, which leaves Δ
pub data Passes : Context → List ℕ → List Ty → Context → Type 0 where
  pass_none : {Γ : Context} → Passes Γ [] [] Γ
  pass_one : {Γ Δ : Context} {i : ℕ} {is : List ℕ} {t : Ty} {ts : List Ty} → Uses Γ i t → Passes (used Γ i) is ts Δ → Passes Γ (i ∷ is) (t ∷ ts) Δ

-- no slot has a list type
pub data NoLists : Context → Type 0 where
  no_slots : NoLists []
  one_more : {x : Option Ty} {Γ : Context} → NoList x → NoLists Γ → NoLists (x ∷ Γ)

-- the context with values of these types in the slots from i upward
abbrev pub filled_from : ℕ → List Ty → Context → Context
filled_from i [] Γ = Γ
filled_from i (t ∷ ts) Γ = filled_from (i + 1) ts (bound Γ i t)

-- the context in which a body starts: the parameters in slots 0 upward, the others empty
abbrev pub starting : List Ty → Context
starting ts = filled_from 0 ts (replicate slot_count None)
