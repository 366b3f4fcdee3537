-- How slots fit a context when one slot changes, and what becomes of their nodes and of what they bring along.
use Rattle.std.proofs.Common.{◌≡◌, ℕ, zero, suc, ◌+◌, ◌<◌, [], ◌∷◌, length, set, Some, Option, refl, ap, le_of_suc-le-suc, not-suc-le-zero, arith}
use Rattle.rules.specs.Types.{Ty}
use Rattle.rules.specs.Contexts.{Context, in_slot, left_of, NoList, NoLists, no_slots, one_more}
use Rattle.rules.proofs.Truth.{impossible}
use Rattle.plain.specs.Values.{Value, nodes, potential, HasType, is_num, is_empty, is_node}
use Rattle.plain.specs.Slots.{Slots, value_in, left_value, slot_nodes, slots_nodes}
use Rattle.plain.specs.Fitting.{FitsSlot, both_vacant, both_filled, Fits, fits_none, fits_more, slot_potential, slots_potential}

pub fits_at : {Γ : Context} {S : Slots} → Fits Γ S → (i : ℕ) → FitsSlot (in_slot Γ i) (value_in S i)
fits_at fits_none i = both_vacant
fits_at (fits_more x r) zero = x
fits_at (fits_more x r) (suc i) = fits_at r i

pub fits_set : {Γ : Context} {S : Slots} {x : Option Ty} {y : Option Value} → Fits Γ S → (i : ℕ) → FitsSlot x y → Fits (set Γ i x) (set S i y)
fits_set fits_none i z = fits_none
fits_set (fits_more x r) zero z = fits_more z r
fits_set (fits_more x r) (suc i) z = fits_more x (fits_set r i z)

pub fits_length : {Γ : Context} {S : Slots} → Fits Γ S → length Γ ≡ length S
fits_length fits_none = refl
fits_length (fits_more x r) = ap suc (fits_length r)

-- what is put into a slot comes in, and what was there goes out
pub potential_set : {Γ : Context} {S : Slots} → Fits Γ S → (i : ℕ) (x : Option Ty) (y : Option Value) → i < length S →
    slots_potential (set Γ i x) (set S i y) + slot_potential (in_slot Γ i) (value_in S i) ≡ slots_potential Γ S + slot_potential x y
potential_set fits_none i x y h = absurd (not-suc-le-zero h)
potential_set (fits_more z r) zero x y h = omega arith
potential_set (fits_more z r) (suc i) x y h = let k = potential_set r i x y (le_of_suc-le-suc h) in omega arith

pub nodes_set : (S : Slots) (i : ℕ) (y : Option Value) → i < length S → slots_nodes (set S i y) + slot_nodes (value_in S i) ≡ slots_nodes S + slot_nodes y
nodes_set [] i y h = absurd (not-suc-le-zero h)
nodes_set (x ∷ S) zero y h = omega arith
nodes_set (x ∷ S) (suc i) y h = let k = nodes_set S i y (le_of_suc-le-suc h) in omega arith

-- a slot that has something is one of the slots
pub filled_inside : {v : Value} (S : Slots) (i : ℕ) → value_in S i ≡ Some v → i < length S
filled_inside [] i e = impossible (cc)
filled_inside (x ∷ S) zero e = omega arith
filled_inside (x ∷ S) (suc i) e = let k = filled_inside S i e in omega arith

-- the value that stands where the context has a type
pub value_there : {x : Option Ty} {y : Option Value} {s : Ty} → FitsSlot x y → x ≡ Some s →
    (v : Value) × (y ≡ Some v) × HasType s v × (slot_potential x y ≡ potential s v) × (slot_nodes y ≡ nodes v)
value_there both_vacant e = impossible (cc)
value_there (both_filled {t} {v} h) e = let k : t ≡ _ = cc in (v, refl, rw k at h, rw k refl, refl)

-- what a use leaves fits, and has no nodes and brings nothing along
pub left_fits : {x : Option Ty} {y : Option Value} → FitsSlot x y → FitsSlot (left_of x) (left_value y)
left_fits both_vacant = both_vacant
left_fits (both_filled is_num) = both_filled is_num
left_fits (both_filled is_empty) = both_vacant
left_fits (both_filled (is_node x y)) = both_vacant

pub left_bare : {x : Option Ty} {y : Option Value} → FitsSlot x y →
    (slot_potential (left_of x) (left_value y) ≡ 0) × (slot_nodes (left_value y) ≡ 0)
left_bare both_vacant = (refl, refl)
left_bare (both_filled is_num) = (refl, refl)
left_bare (both_filled is_empty) = (refl, refl)
left_bare (both_filled (is_node x y)) = (refl, refl)

-- a slot that may be bound has no nodes and brings nothing along
pub no_list_bare : {x : Option Ty} {y : Option Value} → FitsSlot x y → NoList x → (slot_potential x y ≡ 0) × (slot_nodes y ≡ 0)
no_list_bare both_vacant o = (refl, refl)
no_list_bare (both_filled is_num) o = (refl, refl)
no_list_bare (both_filled is_empty) o = elim o [ ]
no_list_bare (both_filled (is_node x y)) o = elim o [ ]

pub no_lists_bare : {Γ : Context} {S : Slots} → NoLists Γ → Fits Γ S → slots_nodes S ≡ 0
no_lists_bare no_slots fits_none = refl
no_lists_bare (one_more o n) (fits_more x r) =
    let k = no_list_bare x o in
    let l = no_lists_bare n r in
    omega arith
