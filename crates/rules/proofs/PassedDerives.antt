-- What the third round passes derives: every body is one branch of the right form, and every function derives.
use Rattle.std.proofs.Common.{◌≡◌, ℕ, ◌+◌, ◌<◌, Bool, true, false, cond, eqb, List, [], ◌∷◌, length, Some, Ok, Result, sym, refl, subst, eqb-true}
use Rattle.records.specs.declared.faults.Cause.{Cause}
use Rattle.records.specs.declared.faults.Cause.TheVariants.{WrongSecond}
use Rattle.records.specs.declared.kinds.NodeType.{NodeType}
use Rattle.records.specs.declared.kinds.Signature.{Signature}
use Rattle.records.specs.declared.kinds.Step.{Step as Action}
use Rattle.records.specs.declared.kinds.Record.TheVariants.{ListType, Function, Step}
use Rattle.records.specs.Writing.{step_size}
use Rattle.records.specs.Rows.{Row}
use Rattle.rules.specs.declared.accounts.Account.{Account}
use Rattle.rules.specs.declared.accounts.Waiting.{Waiting}
use Rattle.rules.specs.declared.findings.Finding.{Finding}
use Rattle.rules.specs.declared.functions.FunctionEntry.{FunctionEntry}
use Rattle.rules.specs.Limits.{waiting_limit}
use Rattle.rules.specs.Types.{ElementsLower}
use Rattle.rules.specs.Programs.{Tables, program, fetch}
use Rattle.rules.specs.Branches.{Straight, Forking, Fields, Branch, step_then, ends_with, forks_with}
use Rattle.rules.specs.Accounts.{opening}
use Rattle.rules.specs.SecondRound.{fault}
use Rattle.rules.specs.ThirdRound.{Stage, between, within, waits, branch_ended, passed, bodies_pass}
use Rattle.rules.proofs.Contexts.{opening_context}
use Rattle.rules.proofs.Ruled.{AccountDerives, DerivesAt, in_context, rule_breaks, rule_onward, rule_forks, rule_ends}
use Rattle.rules.proofs.Found.{Found, found_broken, found, found_of}
use Rattle.rules.proofs.Chains.{Chain, chain_end, chain_next, Layout, layout_ends, layout_type, layout_function, Each, each_none, each_more}

module _ (bytes : List ℕ) (t : Tables) (lower : ElementsLower t.types) where
  -- the branches that wait and what stands behind them, from where the branch before them ends
  data WaitingDerive (g : Signature) : List Waiting → ℕ → Type 0 where
    none_waits : {o : ℕ} {fs : List FunctionEntry} → Layout bytes t o fs → Each bytes t fs → WaitingDerive g [] o
    one_waits : {w : Waiting} {ws : List Waiting} {e : ℕ} → Branch (program bytes t) (length ws) w.second e → DerivesAt bytes t g w.account w.second →
        WaitingDerive g ws e → WaitingDerive g (w ∷ ws) w.second

  data BranchesDerive (g : Signature) (c : Account) (ws : List Waiting) (o : ℕ) : Type 0 where
    branches : {e : ℕ} → Branch (program bytes t) (length ws) o e → DerivesAt bytes t g c o → WaitingDerive g ws e → BranchesDerive g c ws o

  data FunctionsDerive (o : ℕ) : Type 0 where
    functions : {fs : List FunctionEntry} → Layout bytes t o fs → Each bytes t fs → FunctionsDerive o

  abbrev StageDerives : Stage → ℕ → Type 0
  StageDerives between o = FunctionsDerive o
  StageDerives (within g c ws) o = BranchesDerive g c ws o

  -- What the round passes derives: one step.
  module _ (g : Signature) (s : Action) (o : ℕ) (rest : Row) (at : fetch bytes o ≡ Some (Step s))
      (behind : (stage : Stage) → bodies_pass t rest stage ≡ Ok tt → StageDerives stage (o + step_size s)) where
    sound_onward : (c : Account) {d : Account} {ws : List Waiting} → Straight s → Fields (program bytes t) s →
        (DerivesAt bytes t g d (o + step_size s) → AccountDerives bytes t g c o (Some (Step s))) → BranchesDerive g d ws (o + step_size s) → BranchesDerive g c ws o
    sound_onward c straight fields make (branches br k rs) = branches (step_then s at straight fields br) (subst (λ r. AccountDerives bytes t g c o r) (sym at) (make k)) rs

    sound_forks : (c : Account) {d : Account} {w : Waiting} {ws : List Waiting} → Forking s w.second → Fields (program bytes t) s → length ws < waiting_limit →
        (DerivesAt bytes t g d (o + step_size s) → DerivesAt bytes t g w.account w.second → AccountDerives bytes t g c o (Some (Step s))) →
        BranchesDerive g d (w ∷ ws) (o + step_size s) → BranchesDerive g c ws o
    sound_forks c forking fields room make (branches br k (one_waits br₂ k₂ rs)) =
        branches (forks_with s at forking fields room br br₂) (subst (λ r. AccountDerives bytes t g c o r) (sym at) (make k k₂)) rs

    sound_second : {w : Waiting} {ws : List Waiting} → w.second ≡ o + step_size s → BranchesDerive g w.account ws (o + step_size s) → WaitingDerive g (w ∷ ws) (o + step_size s)
    sound_second {w} {ws} e (branches {e = m} br k rs) =
        subst (λ x. WaitingDerive g (w ∷ ws) x) e
        (one_waits (subst (λ x. Branch (program bytes t) (length ws) x m) (sym e) br) (subst (λ x. DerivesAt bytes t g w.account x) (sym e) k) rs)

    sound_last : FunctionsDerive (o + step_size s) → WaitingDerive g [] (o + step_size s)
    sound_last (functions l e) = none_waits l e

    sound_test : (w : Waiting) (ws : List Waiting) (b : Bool) → eqb w.second (o + step_size s) ≡ b →
        cond b (bodies_pass t rest (within g w.account ws)) (fault WrongSecond w.place) ≡ Ok tt → WaitingDerive g (w ∷ ws) (o + step_size s)
    sound_test w ws true e q = sound_second (eqb-true w.second (o + step_size s) e) (behind (within g w.account ws) q)
    sound_test w ws false e q = cc

    sound_end : (ws : List Waiting) → branch_ended g ws (o + step_size s) (λ stage. bodies_pass t rest stage) ≡ Ok tt → WaitingDerive g ws (o + step_size s)
    sound_end [] q = sound_last (behind between q)
    sound_end (w ∷ ws) q = sound_test w ws (eqb w.second (o + step_size s)) refl q

    sound_step : (c : Account) (ws : List Waiting) {v : Result Finding Cause} → Found bytes t g lower (length ws) c o s v →
        passed v g o (o + step_size s) ws (λ stage. bodies_pass t rest stage) ≡ Ok tt → BranchesDerive g c ws o
    sound_step c ws (found_broken never) q = cc
    sound_step c ws (found room fields (rule_breaks never)) q = cc
    sound_step c ws (found room fields (rule_onward {d} straight make unmake)) q = sound_onward c straight fields make (behind (within g d ws) q)
    sound_step c ws (found room fields (rule_forks {first} {later} {second} forking make unmake)) q =
        sound_forks c {w = waits o second later} forking fields (room second forking) make (behind (within g first (waits o second later ∷ ws)) q)
    sound_step c ws (found room fields (rule_ends ending r)) q =
        branches (ends_with s at ending fields) (subst (λ x. AccountDerives bytes t g c o x) (sym at) r) (sound_end ws q)

  sound_type : {o : ℕ} {x : NodeType} → fetch bytes o ≡ Some (ListType x) → FunctionsDerive (o + 4) → FunctionsDerive o
  sound_type {x = x} at (functions l e) = functions (layout_type x at l) e

  sound_function : {o : ℕ} {g : Signature} → fetch bytes o ≡ Some (Function g) → BranchesDerive g (opening g) [] (o + 11) → FunctionsDerive o
  sound_function {g = g} at (branches br k (none_waits l e)) = functions (layout_function g at br l) (each_more (in_context bytes t g (opening_context t.types lower g) k) e)

  sound : {r : Row} {o : ℕ} → Chain bytes r o → (stage : Stage) → bodies_pass t r stage ≡ Ok tt → StageDerives stage o
  sound (chain_end z f) between q = functions (layout_ends z) each_none
  sound (chain_end z f) (within g c ws) q = cc
  sound (chain_next {r = ListType x} f ch) between q = sound_type f (sound ch between q)
  sound (chain_next {r = ListType x} f ch) (within g c ws) q = cc
  sound (chain_next {r = Function h} f ch) between q = sound_function f (sound ch (within h (opening h) []) q)
  sound (chain_next {r = Function h} f ch) (within g c ws) q = cc
  sound (chain_next {r = Step s} f ch) between q = cc
  sound (chain_next {o} {r = Step s} {rest} f ch) (within g c ws) q =
      sound_step g s o rest f (λ stage e. sound ch stage e) c ws (found_of bytes t g lower (length ws) c o s) q

  pub record LaidOut (o : ℕ) : Type 0 where
    pub entries : List FunctionEntry
    pub layout : Layout bytes t o entries
    pub each : Each bytes t entries

  -- what the third round passes is laid out, and each function derives
  pub passed_derives : {r : Row} {o : ℕ} → Chain bytes r o → bodies_pass t r between ≡ Ok tt → LaidOut o
  passed_derives ch q = opened (sound ch between q)
    where
      opened : {o : ℕ} → FunctionsDerive o → LaidOut o
      opened (functions {fs} l e) = record { entries = fs; layout = l; each = e }
