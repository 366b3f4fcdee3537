-- What a branch or a derivation reaches: a step stands there, with fields in their ranges, and the branch goes on behind it.
use Rattle.std.proofs.Common.{◌≡◌, ℕ, zero, suc, ◌+◌, ◌<◌, true, List, length, get_or, Some, Option, refl, subst, arith}
use Rattle.records.specs.declared.kinds.Step.{Step as Action}
use Rattle.records.specs.declared.kinds.Record.{Record}
use Rattle.records.specs.declared.kinds.Record.TheVariants.{Step}
use Rattle.records.specs.Writing.{step_size}
use Rattle.rules.specs.declared.functions.FunctionEntry.{FunctionEntry}
use Rattle.rules.specs.Types.{Ty}
use Rattle.rules.specs.Programs.{Program, no_function}
use Rattle.rules.specs.Branches.{Straight, Ending, Forking, Fields, Branch, step_then, ends_with, forks_with}
use Rattle.rules.specs.Form.{Functions, no_functions, function_then}
use Rattle.rules.specs.Contexts.{Context}
use Rattle.rules.specs.Rules.{Derives, derive_const, derive_arith, derive_empty, derive_cons, derive_call, derive_return, derive_match, derive_if}
use Rattle.rules.specs.Reach.{is_step}
use Rattle.rules.proofs.StepKinds.{straight_forks, straight_ends, forks_ends, forks_once}

-- a derivation is of a step
pub derives_step : {p : Program} {A : Ty} {m : ℕ} {Γ : Context} {b o : ℕ} {r : Option Record} → Derives p A m Γ b o r → is_step r ≡ true
derives_step (derive_const may k) = refl
derives_step (derive_arith ux uy may k) = refl
derives_step (derive_empty is may k) = refl
derives_step (derive_cons is uh ul may pays k) = refl
derives_step (derive_call g is ps may pays k) = refl
derives_step (derive_return u n r) = refl
derives_step (derive_match has differ bh bl k k₂) = refl
derives_step (derive_if u k k₂) = refl

module _ (p : Program) where
  -- the step at the start of a branch, with its fields in their ranges
  pub record FirstStep (o : ℕ) : Type 0 where
    pub step : Action
    pub stands : p.fetched o ≡ Some (Step step)
    pub fields : Fields p step

  pub branch_step : {w o e : ℕ} → Branch p w o e → FirstStep o
  branch_step (step_then s f straight fields br) = record { step = s; stands = f; fields = fields }
  branch_step (ends_with s f ending fields) = record { step = s; stands = f; fields = fields }
  branch_step (forks_with s f forking fields room br br₂) = record { step = s; stands = f; fields = fields }

  -- what comes behind a step that goes straight on
  pub branch_onward : {w o e : ℕ} {s : Action} → Branch p w o e → p.fetched o ≡ Some (Step s) → Straight s → Branch p w (o + step_size s) e
  branch_onward {w} {o} {e} {s} (step_then s₂ f straight₂ fields br) at straight =
      let same : s₂ ≡ s = cc in subst (λ x. Branch p w (o + step_size x) e) same br
  branch_onward {s = s} (ends_with s₂ f ending fields) at straight =
      let same : s₂ ≡ s = cc in absurd (straight_ends straight (subst Ending same ending))
  branch_onward {s = s} (forks_with {second = n} s₂ f forking fields room br br₂) at straight =
      let same : s₂ ≡ s = cc in absurd (straight_forks straight (subst (λ x. Forking x n) same forking))

  -- the two branches behind a step that forks
  pub branch_forks : {w o e second : ℕ} {s : Action} → Branch p w o e → p.fetched o ≡ Some (Step s) → Forking s second →
      Branch p (suc w) (o + step_size s) second × Branch p w second e
  branch_forks {s = s} (step_then s₂ f straight fields br) at forking =
      let same : s₂ ≡ s = cc in absurd (straight_forks (subst Straight same straight) forking)
  branch_forks {s = s} (ends_with s₂ f ending fields) at forking =
      let same : s₂ ≡ s = cc in absurd (forks_ends forking (subst Ending same ending))
  branch_forks {w} {o} {e} {second} {s} (forks_with {second = n} s₂ f forking₂ fields room br br₂) at forking =
      let same : s₂ ≡ s = cc in
      let to : n ≡ second = forks_once (subst (λ x. Forking x n) same forking₂) forking in
      (subst (λ x. Branch p (suc w) (o + step_size x) second) same (subst (λ x. Branch p (suc w) (o + step_size s₂) x) to br), subst (λ x. Branch p w x e) to br₂)

  -- the body of each function is a branch
  pub function_branch : {o e : ℕ} {fs : List FunctionEntry} → Functions p o fs e → (f : ℕ) → f < length fs → (end : ℕ) × Branch p 0 (get_or fs f no_function).body end
  function_branch no_functions f h = absurd (omega arith)
  function_branch (function_then {m = m} g at br rest) zero h = (m, br)
  function_branch (function_then g at br rest) (suc f) h = function_branch rest f (omega arith)
