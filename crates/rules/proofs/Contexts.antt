-- The context that an account stands for, and that the tests on accounts decide what the rules ask of contexts.
use Rattle.std.proofs.Common.{◌≡◌, ℕ, ◌+◌, true, not, List, [], ◌∷◌, map, take, set, replicate, Some, None, Option, sym, refl, ap, ◌∙◌, subst}
use lib.ListN.{get_or-map}
use lib.Seq.{map-set}
use Rattle.records.specs.declared.kinds.NodeType.{NodeType}
use Rattle.records.specs.declared.kinds.Signature.{Signature}
use Rattle.rules.specs.declared.accounts.Slot.{Slot}
use Rattle.rules.specs.declared.accounts.Slot.TheVariants.{Vacant, Number, ListOf}
use Rattle.rules.specs.declared.accounts.Account.{Account}
use Rattle.rules.specs.Types.{Ty, type_of, ElementsLower}
use Rattle.rules.specs.Contexts.{Context, in_slot, left_of, used, bound, Uses, NoList, is_vacant, is_number, Binds, Passes, pass_none, pass_one, NoLists, no_slots, one_more, filled_from, starting}
use Rattle.rules.specs.Rules.{parameters}
use Rattle.rules.specs.Accounts.{slot_type, slot_of, is_filled, is_list, has_covering, slot_covers, left_in, slot_at, with_slot, after_use, may_bind, any_list, all_filled, all_cover, after_uses, slots_from, opening}
use Rattle.rules.proofs.Truth.{split, join}
use Rattle.rules.proofs.Numbered.{slot_of_type, covers_true, true_covers}

abbrev pub context_of : List NodeType → Account → Context
context_of ts c = map (slot_type ts) c.slots

module _ (ts : List NodeType) where
  pub slot_at_type : (c : Account) (i : ℕ) → in_slot (context_of ts c) i ≡ slot_type ts (slot_at c i)
  slot_at_type c i = get_or-map (slot_type ts) c.slots i Vacant

  left_type : (s : Slot) → slot_type ts (left_in s) ≡ left_of (slot_type ts s)
  left_type Vacant = refl
  left_type Number = refl
  left_type (ListOf t) = refl

  pub use_context : (c : Account) (i : ℕ) → context_of ts (after_use c i) ≡ used (context_of ts c) i
  use_context c i =
      map-set (slot_type ts) c.slots i (left_in (slot_at c i))
      ∙ ap (λ x. set (context_of ts c) i x) (left_type (slot_at c i) ∙ ap left_of (sym (slot_at_type c i)))

  pub uses_context : (c : Account) (i j : ℕ) → context_of ts (after_use (after_use c i) j) ≡ used (used (context_of ts c) i) j
  uses_context c i j = use_context (after_use c i) j ∙ ap (λ Γ. used Γ j) (use_context c i)

  pub bind_context : (c : Account) (d : ℕ) (s : Slot) (t : Ty) → slot_type ts s ≡ Some t → context_of ts (with_slot c d s) ≡ bound (context_of ts c) d t
  bind_context c d s t e = map-set (slot_type ts) c.slots d s ∙ ap (λ x. set (context_of ts c) d x) e

  -- a use
  pub uses : (c : Account) (i : ℕ) (t : Ty) → has_covering (slot_type ts (slot_at c i)) t ≡ true → Uses (context_of ts c) i t
  uses c i t e = go (slot_type ts (slot_at c i)) refl e
    where
      go : (x : Option Ty) → slot_type ts (slot_at c i) ≡ x → has_covering x t ≡ true → Uses (context_of ts c) i t
      go None q k = cc
      go (Some s) q k = record { of = s; has = slot_at_type c i ∙ q; covering = covers_true s t k }

  filled_type : (s : Slot) (t : Ty) → slot_type ts s ≡ Some t → is_filled s ≡ true
  filled_type Vacant t e = cc
  filled_type Number t e = refl
  filled_type (ListOf u) t e = refl

  pub uses_filled : (c : Account) (i : ℕ) {t : Ty} → Uses (context_of ts c) i t → is_filled (slot_at c i) ≡ true
  uses_filled c i u = filled_type (slot_at c i) u.of (sym (slot_at_type c i) ∙ u.has)

  pub uses_cover : (c : Account) (i : ℕ) {t : Ty} → Uses (context_of ts c) i t → has_covering (slot_type ts (slot_at c i)) t ≡ true
  uses_cover c i {t} u = ap (λ x. has_covering x t) (sym (slot_at_type c i) ∙ u.has) ∙ true_covers u.covering

  -- a second use
  pub forth : (c : Account) (i j : ℕ) {t : Ty} → Uses (context_of ts (after_use c i)) j t → Uses (used (context_of ts c) i) j t
  forth c i j {t} u = subst (λ Γ. Uses Γ j t) (use_context c i) u

  pub back : (c : Account) (i j : ℕ) {t : Ty} → Uses (used (context_of ts c) i) j t → Uses (context_of ts (after_use c i)) j t
  back c i j {t} u = subst (λ Γ. Uses Γ j t) (sym (use_context c i)) u

  -- a binding
  no_list_type : (s : Slot) → not (is_list s) ≡ true → NoList (slot_type ts s)
  no_list_type Vacant e = is_vacant
  no_list_type Number e = is_number
  no_list_type (ListOf t) e = cc

  type_no_list : (s : Slot) → NoList (slot_type ts s) → not (is_list s) ≡ true
  type_no_list Vacant n = refl
  type_no_list Number n = refl
  type_no_list (ListOf t) n = elim n [ ]

  pub binds : (c : Account) (d : ℕ) → may_bind c d ≡ true → Binds (context_of ts c) d
  binds c d e = subst NoList (sym (slot_at_type c d)) (no_list_type (slot_at c d) e)

  pub binds_may : (c : Account) (d : ℕ) → Binds (context_of ts c) d → may_bind c d ≡ true
  binds_may c d b = type_no_list (slot_at c d) (subst NoList (slot_at_type c d) b)

  -- no list is left
  pub no_lists : (ss : List Slot) → not (any_list ss) ≡ true → NoLists (map (slot_type ts) ss)
  no_lists [] e = no_slots
  no_lists (Vacant ∷ ss) e = one_more is_vacant (no_lists ss e)
  no_lists (Number ∷ ss) e = one_more is_number (no_lists ss e)
  no_lists (ListOf t ∷ ss) e = cc

  pub none_left : (ss : List Slot) → NoLists (map (slot_type ts) ss) → not (any_list ss) ≡ true
  none_left [] n = refl
  none_left (Vacant ∷ ss) (one_more o n) = none_left ss n
  none_left (Number ∷ ss) (one_more o n) = none_left ss n
  none_left (ListOf t ∷ ss) (one_more o n) = elim o [ ]

  -- the slots of a Call
  pub passes : (c : Account) (is ps : List ℕ) → all_cover ts c is ps ≡ true → Passes (context_of ts c) is (map (type_of ts) ps) (context_of ts (after_uses c is))
  passes c [] [] e = pass_none
  passes c [] (p ∷ ps) e = cc
  passes c (i ∷ is) [] e = cc
  passes c (i ∷ is) (p ∷ ps) e =
      let k = split (slot_covers ts (slot_at c i) p) (all_cover ts (after_use c i) is ps) e in
      pass_one (uses c i (type_of ts p) k.0)
      (subst (λ Γ. Passes Γ is (map (type_of ts) ps) (context_of ts (after_uses c (i ∷ is)))) (use_context c i) (passes (after_use c i) is ps k.1))

  pub record Passed (c : Account) (is ps : List ℕ) (Δ : Context) : Type 0 where
    pub filled : all_filled c is ≡ true
    pub cover : all_cover ts c is ps ≡ true
    pub behind : context_of ts (after_uses c is) ≡ Δ

  pub passes_true : (c : Account) (is ps : List ℕ) {Δ : Context} → Passes (context_of ts c) is (map (type_of ts) ps) Δ → Passed c is ps Δ
  passes_true c [] [] pass_none = record { filled = refl; cover = refl; behind = refl }
  passes_true c [] (p ∷ ps) q = elim q [ ]
  passes_true c (i ∷ is) [] q = elim q [ ]
  passes_true c (i ∷ is) (p ∷ ps) (pass_one {Δ} u q) =
      let k = passes_true (after_use c i) is ps (subst (λ Γ. Passes Γ is (map (type_of ts) ps) Δ) (sym (use_context c i)) q) in
      record { filled = join (uses_filled c i u) k.filled; cover = join (uses_cover c i u) k.cover; behind = k.behind }

  -- the start of a body
  module _ (lower : ElementsLower ts) where
    slots_from_context : (i : ℕ) (ps : List ℕ) (ss : List Slot) → map (slot_type ts) (slots_from i ps ss) ≡ filled_from i (map (type_of ts) ps) (map (slot_type ts) ss)
    slots_from_context i [] ss = refl
    slots_from_context i (t ∷ ps) ss =
        slots_from_context (i + 1) ps (set ss i (slot_of t))
        ∙ ap (λ Γ. filled_from (i + 1) (map (type_of ts) ps) Γ)
        (map-set (slot_type ts) ss i (slot_of t) ∙ ap (λ x. set (map (slot_type ts) ss) i x) (slot_of_type ts lower t))

    pub opening_context : (g : Signature) → context_of ts (opening g) ≡ starting (parameters ts g)
    opening_context g = slots_from_context 0 (take g.count g.params) (replicate 16 Vacant)
