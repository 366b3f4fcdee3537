-- How the slots of a frame fit a context of the rules, and what they bring along. Rests on slots and contexts.
use Rattle.std.specs.Prelude.{◌≡◌, ℕ, ◌+◌, [], ◌∷◌, length, Some, None, Option}
use Rattle.rules.specs.Limits.{slot_count}
use Rattle.rules.specs.Types.{Ty}
use Rattle.rules.specs.Contexts.{Context}
use Rattle.plain.specs.Values.{Value, HasType, potential}
use Rattle.plain.specs.Slots.{Slots}

-- a slot has a value of the type that the context has for it, or nothing where the context has nothing
pub data FitsSlot : Option Ty → Option Value → Type 0 where
  both_vacant : FitsSlot None None
  both_filled : {t : Ty} {v : Value} → HasType t v → FitsSlot (Some t) (Some v)

pub data Fits : Context → Slots → Type 0 where
  fits_none : Fits [] []
  fits_more : {x : Option Ty} {y : Option Value} {Γ : Context} {S : Slots} → FitsSlot x y → Fits Γ S → Fits (x ∷ Γ) (y ∷ S)

-- the slots of a frame in this context
pub record Filled (Γ : Context) (S : Slots) : Type 0 where
  pub fits : Fits Γ S
  pub width : length S ≡ slot_count

-- what a slot brings along at the type that the context has for it, and all slots together
abbrev pub slot_potential : Option Ty → Option Value → ℕ
slot_potential None v = 0
slot_potential (Some t) None = 0
slot_potential (Some t) (Some v) = potential t v

abbrev pub slots_potential : Context → Slots → ℕ
slots_potential [] S = 0
slots_potential (t ∷ Γ) [] = 0
slots_potential (t ∷ Γ) (v ∷ S) = slot_potential t v + slots_potential Γ S
