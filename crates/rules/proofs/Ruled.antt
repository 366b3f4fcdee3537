-- What the check finds of one step agrees with the rule for its kind.
use Rattle.std.proofs.Common.{◌≡◌, ℕ, ◌+◌, Bool, true, false, List, Some, Option, Ok, Err, Result, refl, subst}
use Rattle.records.specs.declared.faults.Cause.{Cause}
use Rattle.records.specs.declared.kinds.Signature.{Signature}
use Rattle.records.specs.declared.kinds.Step.{Step as Action}
use Rattle.records.specs.declared.kinds.Record.{Record}
use Rattle.records.specs.declared.kinds.Record.TheVariants.{Step}
use Rattle.records.specs.Writing.{step_size}
use Rattle.rules.specs.declared.accounts.Account.{Account}
use Rattle.rules.specs.declared.findings.Finding.{Finding}
use Rattle.rules.specs.declared.findings.Finding.TheVariants.{Onward, Forks, Ends}
use Rattle.rules.specs.Types.{type_of}
use Rattle.rules.specs.Programs.{Tables, program, fetch}
use Rattle.rules.specs.Branches.{Straight, Ending, Forking}
use Rattle.rules.specs.Contexts.{Context}
use Rattle.rules.specs.Rules.{Derives}
use Rattle.rules.specs.Tests.{need}
use Rattle.rules.proofs.Contexts.{context_of}

-- from the record r at o on, a branch of g derives with this account
abbrev pub AccountDerives : List ℕ → Tables → Signature → Account → ℕ → Option Record → Type 0
AccountDerives bytes t g c o r =
    Derives (program bytes t) (type_of t.types g.result) g.remainder (context_of t.types c) c.balance o r

-- and so it does from what is fetched at o
abbrev pub DerivesAt : List ℕ → Tables → Signature → Account → ℕ → Type 0
DerivesAt bytes t g c o = AccountDerives bytes t g c o (fetch bytes o)

module _ (bytes : List ℕ) (t : Tables) (g : Signature) where
  -- a finding agrees with the rule for the step s at o: the branch derives here exactly when it does behind the step
  pub data Ruled (c : Account) (o : ℕ) (s : Action) : Result Finding Cause → Type 0 where
    rule_breaks : {cause : Cause} → (AccountDerives bytes t g c o (Some (Step s)) → ⊥) → Ruled c o s (Err cause)
    rule_onward : {d : Account} → Straight s →
        (DerivesAt bytes t g d (o + step_size s) → AccountDerives bytes t g c o (Some (Step s))) →
        (AccountDerives bytes t g c o (Some (Step s)) → DerivesAt bytes t g d (o + step_size s)) → Ruled c o s (Ok (Onward d))
    rule_forks : {first later : Account} {second : ℕ} → Forking s second →
        (DerivesAt bytes t g first (o + step_size s) → DerivesAt bytes t g later second → AccountDerives bytes t g c o (Some (Step s))) →
        (AccountDerives bytes t g c o (Some (Step s)) → DerivesAt bytes t g first (o + step_size s) × DerivesAt bytes t g later second) →
        Ruled c o s (Ok (Forks first second later))
    rule_ends : Ending s → AccountDerives bytes t g c o (Some (Step s)) → Ruled c o s (Ok Ends)

  -- a test that the rule implies may stand before the rest
  pub by_need : {c : Account} {o : ℕ} {s : Action} (cause : Cause) (v : Result Finding Cause) (test : Bool) → (test ≡ true → Ruled c o s v) →
      (AccountDerives bytes t g c o (Some (Step s)) → test ≡ true) → Ruled c o s (need cause test v)
  by_need cause v true then must = then refl
  by_need cause v false then must = rule_breaks (λ r. let e = must r in cc)

  -- a derivation in an equal context
  pub in_context : {Γ Δ : Context} {b o : ℕ} {r : Option Record} → Γ ≡ Δ →
      Derives (program bytes t) (type_of t.types g.result) g.remainder Γ b o r →
      Derives (program bytes t) (type_of t.types g.result) g.remainder Δ b o r
  in_context {b = b} {o} {r} e k = subst (λ Γ. Derives (program bytes t) (type_of t.types g.result) g.remainder Γ b o r) e k
