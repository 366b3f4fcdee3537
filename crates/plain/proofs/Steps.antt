-- Every step of a run that is paid for goes well: one case for each rule.
use Rattle.std.proofs.Common.{◌≡◌, ℕ, suc, ◌+◌, ◌≤◌, List, ◌∷◌, length, Some, Option, sym, refl, subst}
use Rattle.records.specs.declared.kinds.Step.{Step as Action}
use Rattle.records.specs.declared.kinds.Record.{Record}
use Rattle.records.specs.declared.kinds.Record.TheVariants.{Step}
use Rattle.rules.specs.Types.{Ty}
use Rattle.rules.specs.Programs.{Program}
use Rattle.rules.specs.Branches.{Branch, Fields}
use Rattle.rules.specs.Contexts.{Context}
use Rattle.rules.specs.Rules.{Derives, derive_const, derive_arith, derive_empty, derive_cons, derive_call, derive_return, derive_match, derive_if}
use Rattle.plain.specs.Slots.{slots_nodes}
use Rattle.plain.specs.Reading.{Frame, frame_limit, frames_nodes, act_at}
use Rattle.plain.specs.Fitting.{Filled, slots_potential}
use Rattle.plain.specs.Paid.{Suspended, Paid, paid}
use Rattle.plain.proofs.Outcomes.{fields_at, Good, Before, GoesWell}
use Rattle.plain.proofs.StraightSteps.{const_goes_well, arith_goes_well, empty_goes_well, cons_goes_well}
use Rattle.plain.proofs.CallSteps.{AllCallable, Calls, call_goes_well, return_goes_well}
use Rattle.plain.proofs.ForkSteps.{match_goes_well, if_goes_well}

module _ (p : Program) (A : Ty) (r spare purse : ℕ) where
  -- the step that stands where the newest frame has come to, and that it goes well
  pub record Goes (x : Option Record) (f : Frame) (fs : List Frame) : Type 0 where
    pub action : Action
    pub stands : x ≡ Some (Step action)
    pub fields : Fields p action
    pub well : Good p A r spare purse action f.slots (suc (length fs)) (slots_nodes f.slots + frames_nodes fs) (act_at p x f fs)

  module _ (f : Frame) (fs : List Frame) (b : ℕ) {B : Ty} {n amount waiting end : ℕ} {Γ : Context} (all : AllCallable p)
      (filled : Filled Γ f.slots) (suspended : Suspended p A r f.awaiting B n amount fs)
      (enough : spare + b + slots_potential Γ f.slots + amount ≤ purse) (few : suc (length fs) ≤ frame_limit)
      (branch : Branch p waiting f.next end) where
    before : {a : Action} → p.fetched f.next ≡ Some (Step a) → Before p A r spare purse B n Γ b f.next f.slots f.awaiting fs a
    before at =
        record {
          filled = filled;
          amount = amount;
          suspended = suspended;
          enough = enough;
          few = few;
          waiting = waiting;
          end = end;
          branch = branch;
          stands = at;
        }

    goes : {a : Action} → p.fetched f.next ≡ Some (Step a) → GoesWell p A r spare purse a f.next f.slots f.awaiting fs → Goes (Some (Step a)) f fs
    goes {a} at well = record { action = a; stands = refl; fields = fields_at branch at; well = well }

    pub derived_goes : {x : Option Record} → Derives p B n Γ b f.next x → p.fetched f.next ≡ x → Goes x f fs
    derived_goes (derive_const may k) at = goes at (const_goes_well p A r spare purse (before at) may k)
    derived_goes (derive_arith ux uy may k) at = goes at (arith_goes_well p A r spare purse (before at) ux uy may k)
    derived_goes (derive_empty {a = a} {e = e} is may k) at = goes at (empty_goes_well p A r spare purse e a (before at) may k)
    derived_goes (derive_cons is uh ul may pays k) at = goes at (cons_goes_well p A r spare purse (before at) uh ul may pays k)
    derived_goes (derive_call {Δ = Δ} {d = d} {f = i} {slots = slots} g is ps may pays k) at =
        let call : Calls p B n Γ Δ b f.next d slots g = record { passes = ps; pays = pays; derives = k } in
        goes at (call_goes_well p A r spare purse all (before at) may (subst (λ y. Calls p B n Γ Δ b f.next d slots y) (sym is) call))
    derived_goes (derive_return u none left) at = goes at (return_goes_well p A r spare purse (before at) u none left)
    derived_goes (derive_match has differ bh bl k₁ k₂) at = goes at (match_goes_well p A r spare purse (before at) has differ bh bl k₁ k₂)
    derived_goes (derive_if u k₁ k₂) at = goes at (if_goes_well p A r spare purse (before at) u k₁ k₂)

  pub paid_goes : {f : Frame} {fs : List Frame} → AllCallable p → Paid p A r spare purse (f ∷ fs) → Goes (p.fetched f.next) f fs
  paid_goes {f} {fs} all (paid {balance = b} filled continues suspended enough few) =
      derived_goes f fs b all filled suspended enough few continues.branch continues.derives refl
