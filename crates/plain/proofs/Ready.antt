-- A step of a funded run has what it needs: one case for each rule.
use Rattle.std.proofs.Common.{◌≡◌, ℕ, ◌+◌, ◌-◌, ◌<◌, ◌≤◌, List, ◌∷◌, take, Some, Option, sym, refl, subst, arith}
use Rattle.records.specs.declared.kinds.Signature.{Signature}
use Rattle.records.specs.declared.kinds.Step.{Step as Action}
use Rattle.records.specs.declared.kinds.Record.{Record}
use Rattle.records.specs.declared.kinds.Record.TheVariants.{Step}
use Rattle.rules.specs.Limits.{slot_count}
use Rattle.rules.specs.Types.{Ty, list}
use Rattle.rules.specs.Programs.{Program}
use Rattle.rules.specs.Branches.{Branch, Fields}
use Rattle.rules.specs.Contexts.{Context, NoList, Binds, Passes, pass_none, pass_one}
use Rattle.rules.specs.Rules.{parameters, Derives, derive_const, derive_arith, derive_empty, derive_cons, derive_call, derive_return, derive_match, derive_if}
use Rattle.plain.specs.Values.{Value, empty, node, HasType, is_num, is_empty, is_node}
use Rattle.plain.specs.Slots.{Slots}
use Rattle.plain.specs.Reading.{Frame, frames_nodes}
use Rattle.plain.specs.States.{program_of}
use Rattle.plain.specs.Charges.{charge}
use Rattle.plain.specs.Fitting.{FitsSlot, both_vacant, both_filled, Filled, slots_potential}
use Rattle.plain.specs.Paid.{Suspended, no_caller, a_caller, Paid, paid}
use Rattle.plain.specs.Funded.{result_type, result_remainder}
use Rattle.plain.specs.Ready.{NotAList, is_vacant, is_number, Takes, IsList, empty_list, node_list, Operands, no_operands, one_operand, Awaited, by_none, by_caller}
use Rattle.plain.specs.Ready.{Ready, const_ready, arith_ready, empty_ready, cons_ready, call_ready, return_ready, match_ready, if_ready, EveryStepHasWhatItNeeds}
use Rattle.plain.proofs.Values.{covers_itself}
use Rattle.plain.proofs.Slots.{fits_at, no_lists_bare}
use Rattle.plain.proofs.Uses.{use_slot, number_at}
use Rattle.plain.proofs.Outcomes.{fields_at}

not_a_list : {x : Option Ty} {y : Option Value} → FitsSlot x y → NoList x → NotAList y
not_a_list both_vacant o = is_vacant
not_a_list (both_filled is_num) o = is_number
not_a_list (both_filled is_empty) o = elim o [ ]
not_a_list (both_filled (is_node x y)) o = elim o [ ]

takes : {Γ : Context} {S : Slots} {d : ℕ} → Filled Γ S → d < slot_count → Binds Γ d → Takes S d
takes {d = d} r h b = record { inside = rw r.width h; clear = not_a_list (fits_at r.fits d) b }

is_list : {e : Ty} {a : ℕ} {v : Value} → HasType (list e a) v → IsList v
is_list is_empty = empty_list
is_list (is_node h l) = node_list

operands : {Γ Δ : Context} {is : List ℕ} {ts : List Ty} → Passes Γ is ts Δ → {S : Slots} → Filled Γ S → Operands S is ts
operands pass_none r = no_operands
operands (pass_one {i = i} u more) r = let x = use_slot r i u in one_operand x.there x.typed (operands more x.filled)

awaited : {p : Program} {A : Ty} {r : ℕ} {B : Ty} {d m amount : ℕ} {fs : List Frame} → Suspended p A r d B m amount fs → Awaited d fs
awaited no_caller = by_none
awaited (a_caller balance filled may inside continues beneath is) = by_caller (takes filled inside may)

module _ (p : Program) (A : Ty) (r spare purse : ℕ) where
  -- the step that stands there, and that it has what it needs
  record HasAll (x : Option Record) (f : Frame) (fs : List Frame) : Type 0 where
    action : Action
    stands : x ≡ Some (Step action)
    fields : Fields p action
    ready : Ready p f.slots f.awaiting fs action
    room : spare + charge action ≤ purse

  module _ (f : Frame) (fs : List Frame) (b : ℕ) {B : Ty} {n amount waiting end : ℕ} {Γ : Context} (filled : Filled Γ f.slots)
      (suspended : Suspended p A r f.awaiting B n amount fs) (enough : spare + b + slots_potential Γ f.slots + amount ≤ purse)
      (branch : Branch p waiting f.next end) where
    has_all : {a : Action} → p.fetched f.next ≡ Some (Step a) → spare + charge a ≤ purse → (Fields p a → Ready p f.slots f.awaiting fs a) →
        HasAll (Some (Step a)) f fs
    has_all {a} at room ready =
        let fields = fields_at branch at in record { action = a; stands = refl; fields = fields; ready = ready fields; room = room }

    derived_ready : {x : Option Record} → Derives p B n Γ b f.next x → p.fetched f.next ≡ x → HasAll x f fs
    derived_ready (derive_const may k) at = has_all at (omega arith) (λ fields. const_ready (takes filled fields may))
    derived_ready (derive_arith {x = i} {y = j} ux uy may k) at =
        let x = use_slot filled i ux in
        let y = use_slot x.filled j uy in
        has_all at (omega arith) (λ fields. arith_ready (number_at i x).1 (number_at j y).1 (takes y.filled fields.0 may))
    derived_ready (derive_empty is may k) at =
        has_all at (omega arith) (λ fields. empty_ready (subst (λ t. HasType t empty) (sym is) is_empty) (takes filled fields.0 may))
    derived_ready (derive_cons {h = h} {l = l} is uh ul may pays k) at =
        let x = use_slot filled h uh in
        let y = use_slot x.filled l ul in
        has_all at (omega arith)
        (λ fields. cons_ready x.there y.there (subst (λ t. HasType t (node x.value y.value)) (sym is) (is_node x.typed y.typed))
        (takes y.filled fields.0 may))
    derived_ready (derive_call {slots = slots} g is ps may pays k) at =
        has_all at (omega arith)
        (λ fields. call_ready (subst (λ (y : Signature). Operands f.slots (take y.count slots) (parameters p.types y)) (sym is) (operands ps filled)))
    derived_ready (derive_return {a = i} u none left) at =
        let x = use_slot filled i u in
        has_all at (omega arith) (λ fields. return_ready x.there (no_lists_bare none x.filled.fits) (awaited suspended))
    derived_ready (derive_match {a = i} {n = m} {e = e} has differ bh bl k₁ k₂) at =
        let x = use_slot filled i (record { of = list e m; has = has; covering = covers_itself (list e m) }) in
        has_all at (omega arith)
        (λ fields. match_ready x.there (is_list x.typed) differ (takes x.filled fields.1 bh) (takes x.filled fields.2 bl))
    derived_ready (derive_if {a = i} u k₁ k₂) at = let x = use_slot filled i u in has_all at (omega arith) (λ fields. if_ready (number_at i x).1)

  paid_ready : {f : Frame} {fs : List Frame} → Paid p A r spare purse (f ∷ fs) → HasAll (p.fetched f.next) f fs
  paid_ready {f} {fs} (paid {balance = b} filled continues suspended enough few) =
      derived_ready f fs b filled suspended enough continues.branch continues.derives refl

pub every_step_has_what_it_needs : EveryStepHasWhatItNeeds
every_step_has_what_it_needs s spare capacity f fs funded =
    let x = paid_ready (program_of s) (result_type s) (result_remainder s) spare (capacity - frames_nodes (f ∷ fs)) funded.pays in
    record { action = x.action; stands = x.stands; fields = x.fields; ready = x.ready; room = x.room }
