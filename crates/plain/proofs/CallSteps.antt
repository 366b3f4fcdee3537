-- Call and Return on a run that is paid for.
use Rattle.std.proofs.Common.{◌≡◌, ℕ, suc, ◌+◌, ◌-◌, ◌<◌, ◌≤◌, Bool, true, false, cond, leb, List, ◌∷◌, length, get_or, take, sym, refl, subst, arith, leb-false, leb-true}
use Rattle.records.specs.declared.kinds.Signature.{Signature}
use Rattle.records.specs.declared.kinds.Step.TheVariants.{Call, Return}
use Rattle.rules.specs.declared.functions.FunctionEntry.{FunctionEntry}
use Rattle.rules.specs.Limits.{slot_count}
use Rattle.rules.specs.Types.{Ty, type_of}
use Rattle.rules.specs.Programs.{Program, no_function}
use Rattle.rules.specs.Branches.{is_call}
use Rattle.rules.specs.Contexts.{Context, used, bound, Uses, Binds, Passes, NoLists, starting}
use Rattle.rules.specs.Rules.{Derives, parameters}
use Rattle.plain.specs.Values.{Value, nodes, potential, HasType}
use Rattle.plain.specs.Slots.{Slots, slots_nodes}
use Rattle.plain.specs.Reading.{Frame, frame, frame_limit, frames_nodes, goes_on, refused, with_values, handed_back, entered}
use Rattle.plain.specs.Paid.{Continues, Suspended, no_caller, a_caller, paid}
use Rattle.plain.specs.Funded.{is_call as calls}
use Rattle.plain.proofs.Slots.{no_lists_bare}
use Rattle.plain.proofs.Uses.{use_slot, bind_slot, pass_slots}
use Rattle.plain.proofs.Starts.{begin}
use Rattle.plain.proofs.Outcomes.{fields_at, onward, Good, good_on, good_end, good_refused, Before, GoesWell, by_value}

-- a function may be called: its parameters have slots, and at its body a branch continues at its stated amounts
pub record Callable (p : Program) (g : FunctionEntry) : Type 0 where
  pub few : length (parameters p.types g.signature) ≤ slot_count
  pub continues : Continues p (type_of p.types g.signature.result) g.signature.remainder
      (starting (parameters p.types g.signature)) g.signature.entry g.body

abbrev pub AllCallable : Program → Type 0
AllCallable p = (f : ℕ) → f < length p.functions → Callable p (get_or p.functions f no_function)

-- what the rule for a Call asks, for a function with this signature
pub record Calls (p : Program) (B : Ty) (n : ℕ) (Γ Δ : Context) (b o d : ℕ) (slots : List ℕ) (g : Signature) : Type 0 where
  pub passes : Passes Γ (take g.count slots) (parameters p.types g) Δ
  pub pays : g.entry ≤ b
  pub derives : Derives p B n (bound Δ d (type_of p.types g.result)) (b - g.entry + g.remainder) (o + 7) (p.fetched (o + 7))

module _ (p : Program) (A : Ty) (r spare purse : ℕ) where
  -- a value goes to the frame that awaits it, or ends the run
  hands_back : {B : Ty} {n amount w i : ℕ} {S : Slots} {fs : List Frame} {v : Value} → Suspended p A r w B n amount fs → suc (length fs) ≤ frame_limit →
      spare + n + potential B v + amount ≤ purse → HasType B v → slots_nodes S ≡ nodes v →
      Good p A r spare purse (Return i) S (suc (length fs)) (slots_nodes S + frames_nodes fs) (handed_back fs w v)
  hands_back no_caller few enough h same = good_end (λ t. elim t.call [ ]) h (omega arith) (omega arith) (omega arith)
  hands_back (a_caller balance filled may inside continues beneath is) few enough h same =
      let x = bind_slot filled inside may h in
      good_on (λ t. elim t.call [ ]) (omega arith) (paid x.filled continues beneath (omega arith) (omega arith)) (omega arith)

  pub return_goes_well : {B : Ty} {n : ℕ} {Γ : Context} {b o : ℕ} {S : Slots} {w : ℕ} {fs : List Frame} {i : ℕ} →
      Before p A r spare purse B n Γ b o S w fs (Return i) → Uses Γ i B → NoLists (used Γ i) → n ≤ b → GoesWell p A r spare purse (Return i) o S w fs
  return_goes_well {i} c u none left =
      let x = use_slot c.filled i u in
      let z = no_lists_bare none x.filled.fits in
      by_value p A r spare purse _ x.there (hands_back c.suspended c.few (omega arith) x.typed (omega arith))

  pub call_goes_well : {B : Ty} {n : ℕ} {Γ Δ : Context} {b o : ℕ} {S : Slots} {w : ℕ} {fs : List Frame} {d f : ℕ} {slots : List ℕ} → AllCallable p →
      Before p A r spare purse B n Γ b o S w fs (Call d f slots) → Binds Δ d →
      Calls p B n Γ Δ b o d slots (get_or p.functions f no_function).signature → GoesWell p A r spare purse (Call d f slots) o S w fs
  call_goes_well {B} {n} {Γ} {Δ} {b} {o} {S} {w} {fs} {d} {f} {slots} all c may call = go (leb frame_limit (length fs + 1)) refl
    where
      go : (t : Bool) → leb frame_limit (length fs + 1) ≡ t →
          Good p A r spare purse (Call d f slots) S (suc (length fs)) (slots_nodes S + frames_nodes fs) (cond t refused
          (with_values S (take (get_or p.functions f no_function).signature.count slots)
          (λ vs T. goes_on (entered (get_or p.functions f no_function) vs d ∷ frame (o + 7) T w ∷ fs))))
      go true e = let h = leb-true frame_limit (length fs + 1) e in let few = c.few in good_refused (record { call = calls; full = omega arith })
      go false e =
          let h = leb-false frame_limit (length fs + 1) e in
          let fields = fields_at c.branch c.stands in
          let x = pass_slots call.passes c.filled in
          let it = all f fields.1 in
          let y = begin x.typed it.few in
          subst (λ z. Good p A r spare purse (Call d f slots) S (suc (length fs)) (slots_nodes S + frames_nodes fs) z) (sym (x.reads _))
          (good_on (λ t. let deep = t.full in omega arith) (omega arith)
          (paid y.filled it.continues
          (a_caller (b - (get_or p.functions f no_function).signature.entry) x.filled may fields.0 (onward c.branch c.stands is_call call.derives) c.suspended refl)
          (omega arith) (omega arith))
          (omega arith))
