-- The account that the check keeps along a branch: slots with type numbers, and the balance. Rests on types and tests.
use Rattle.std.specs.Prelude.{ℕ, ◌+◌, Bool, true, false, cond, not, List, [], ◌∷◌, take, replicate, Some, None, Option, ◌==◌, slice_index_or, slice_set}
use Rattle.std.specs.List.{list_any}
use Rattle.records.specs.declared.kinds.NodeType.{NodeType}
use Rattle.records.specs.declared.kinds.Signature.{Signature}
use Rattle.rules.specs.declared.accounts.Slot.{Slot}
use Rattle.rules.specs.declared.accounts.Slot.TheVariants.{Vacant, Number, ListOf}
use Rattle.rules.specs.declared.accounts.Account.{Account}
use Rattle.rules.specs.Limits.{slot_count}
use Rattle.rules.specs.Types.{Ty, number, list, type_record, type_of}
use Rattle.rules.specs.Tests.{both, covers}

-- the list type with number t
abbrev pub list_type : List NodeType → ℕ → Ty
list_type ts t = list (type_of ts (type_record ts t).element) (type_record ts t).amount

-- the type that a slot has
abbrev pub slot_type : List NodeType → Slot → Option Ty
slot_type ts Vacant = None
slot_type ts Number = Some number
slot_type ts (ListOf t) = Some (list_type ts t)

-- a slot that has the type with number t
abbrev pub slot_of : ℕ → Slot
slot_of t = cond (t == 0) Number (ListOf t)

-- whether a slot has a value
abbrev pub is_filled : Slot → Bool
is_filled Vacant = false
is_filled Number = true
is_filled (ListOf t) = true

-- whether a slot has a list
abbrev pub is_list : Slot → Bool
is_list Vacant = false
is_list Number = false
is_list (ListOf t) = true

-- whether there is a type, and it covers t
abbrev pub has_covering : Option Ty → Ty → Bool
has_covering None t = false
has_covering (Some s) t = covers s t

-- whether the slot has a type that covers the type with number t
abbrev pub slot_covers : List NodeType → Slot → ℕ → Bool
slot_covers ts s t = has_covering (slot_type ts s) (type_of ts t)

-- what a use leaves in the slot
abbrev pub left_in : Slot → Slot
left_in Vacant = Vacant
left_in Number = Number
left_in (ListOf t) = Vacant

-- what slot i has
abbrev pub slot_at : Account → ℕ → Slot
slot_at c i = slice_index_or c.slots i Vacant

-- the account with another value in slot i
abbrev pub with_slot : Account → ℕ → Slot → Account
with_slot c i s = record { slots = slice_set c.slots i s; balance = c.balance }

-- the account with another balance
abbrev pub with_balance : Account → ℕ → Account
with_balance c b = record { slots = c.slots; balance = b }

-- the account after a use of slot i, covering or not
abbrev pub after_use : Account → ℕ → Account
after_use c i = with_slot c i (left_in (slot_at c i))

-- whether slot d may be bound
abbrev pub may_bind : Account → ℕ → Bool
may_bind c d = not (is_list (slot_at c d))

-- whether some slot has a list
abbrev pub any_list : List Slot → Bool
any_list ss = list_any is_list ss

-- a Call's slots, used one after the other: whether all were filled, whether all covered, and the account behind them
abbrev pub all_filled : Account → List ℕ → Bool
all_filled c [] = true
all_filled c (i ∷ is) = both (is_filled (slot_at c i)) (all_filled (after_use c i) is)

abbrev pub all_cover : List NodeType → Account → List ℕ → List ℕ → Bool
all_cover ts c [] [] = true
all_cover ts c [] (p ∷ ps) = false
all_cover ts c (i ∷ is) [] = false
all_cover ts c (i ∷ is) (p ∷ ps) = both (slot_covers ts (slot_at c i) p) (all_cover ts (after_use c i) is ps)

abbrev pub after_uses : Account → List ℕ → Account
after_uses c [] = c
after_uses c (i ∷ is) = after_uses (after_use c i) is

-- slots that have the types with these numbers from i upward
abbrev pub slots_from : ℕ → List ℕ → List Slot → List Slot
slots_from i [] ss = ss
slots_from i (p ∷ ps) ss = slots_from (i + 1) ps (slice_set ss i (slot_of p))

-- the account with which a body starts
abbrev pub opening : Signature → Account
opening g = record { slots = slots_from 0 (take g.count g.params) (replicate slot_count Vacant); balance = g.entry }
