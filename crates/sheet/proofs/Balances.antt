-- Balances, as steps change them.
use Rattle.std.proofs.Common.{◌≡◌, ℕ, zero, suc, ◌+◌, ◌<◌, Bool, true, false, not, ◌==◌, List, [], ◌∷◌, ◌++◌, Ok, Result, IfOk, refl, sym, subst, arith, rules}
use Rattle.records.specs.declared.faults.Cause.{Cause}
use Rattle.records.specs.declared.faults.Cause.TheVariants.{BadBinding}
use Rattle.records.specs.declared.kinds.Signature.{Signature}
use Rattle.records.specs.declared.kinds.Step.{Step as Action}
use Rattle.records.specs.declared.kinds.Step.TheVariants.{Const, Arith, Empty, Cons, Call, Return, Match, If}
use Rattle.rules.specs.declared.accounts.Slot.{Slot}
use Rattle.rules.specs.declared.accounts.Slot.TheVariants.{Vacant, Number, ListOf}
use Rattle.rules.specs.declared.accounts.Account.{Account}
use Rattle.rules.specs.declared.findings.Finding.{Finding}
use Rattle.rules.specs.declared.functions.FunctionEntry.{FunctionEntry}
use Rattle.rules.specs.declared.findings.Finding.TheVariants.{Forks}
use Rattle.rules.specs.Types.{type_record}
use Rattle.rules.specs.Programs.{Tables}
use Rattle.rules.specs.Tests.{need, both}
use Rattle.rules.specs.Accounts.{slot_of, slot_at, with_slot, with_balance, after_use, may_bind, after_uses}
use Rattle.rules.specs.Findings.{node_cost, find_opened, find_step, finding}
use Rattle.sheet.specs.Growth.{gain_limit, SmallAmounts, SmallRemainders, Grown}

-- uses leave the balance as it is
pub uses_keep_balance : (c : Account) (is : List ℕ) → (after_uses c is).balance ≡ c.balance
uses_keep_balance c [] = refl
uses_keep_balance c (i ∷ is) = uses_keep_balance (after_use c i) is

-- a test before a finding adds nothing to what it hands on
pub need_grown : (b : ℕ) (cause : Cause) (test : Bool) (v : Result Finding Cause) → IfOk v (Grown b) → IfOk (need cause test v) (Grown b)
need_grown b cause true v h = h
need_grown b cause false v h = tt

-- a function more, whose calls give back no more than that
pub remainders_more : (fs : List FunctionEntry) (entry : FunctionEntry) → SmallRemainders fs → entry.signature.remainder < gain_limit →
    SmallRemainders (fs ++ (entry ∷ []))
remainders_more [] entry small h zero = h
remainders_more [] entry small h (suc f) = small f
remainders_more (x ∷ fs) entry small h zero = small 0
remainders_more (x ∷ fs) entry small h (suc f) = remainders_more fs entry (λ k. small (suc k)) h f

module _ (t : Tables) (amounts : SmallAmounts t.types) (remainders : SmallRemainders t.functions) where
  opened_grown : (b : ℕ) (s : Slot) (c : Account) (h l second : ℕ) → c.balance ≡ b → IfOk (find_opened t.types s c h l second) (Grown b)
  opened_grown b Vacant c h l second e = tt
  opened_grown b Number c h l second e = tt
  opened_grown b (ListOf u) c h l second e =
      let a = amounts u in
      let later = with_slot (with_slot (with_balance c (c.balance + node_cost t.types u)) h (slot_of (type_record t.types u).element)) l (ListOf u) in
      let grown : Grown b (Forks c second later) = (omega (arith, e), omega (arith, e)) in
      need_grown b BadBinding (both (not (h == l)) (both (may_bind c h) (may_bind c l))) (Ok (Forks c second later)) grown

  step_grown : (g : Signature) (c : Account) (s : Action) → IfOk (find_step t g c s) (Grown c.balance)
  step_grown g c (Const d n) = search (rules, need_grown)
  step_grown g c (Arith d op a b) = search (rules, need_grown)
  step_grown g c (Empty d u) = search (rules, need_grown)
  step_grown g c (Cons d u h l) = search (rules, need_grown)
  step_grown g c (Call d f slots) = let r = remainders f in search (rules, need_grown)
  step_grown g c (Return a) = search (rules, need_grown)
  step_grown g c (Match a h l second) = opened_grown c.balance (slot_at c a) (after_use c a) h l second refl
  step_grown g c (If a second) = search (rules, need_grown)

  -- no finding hands on much more than there was
  pub finding_grown : (g : Signature) (waiting : ℕ) (c : Account) (s : Action) (v : Finding) → Ok v ≡ finding t g waiting c s → Grown c.balance v
  finding_grown g waiting c s v e =
      subst (λ r. IfOk r (Grown c.balance)) (sym e) (search (need_grown c.balance, step_grown g c s))
