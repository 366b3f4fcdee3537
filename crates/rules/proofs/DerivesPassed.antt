-- What has the form and derives, the third round passes.
use Rattle.std.proofs.Common.{◌≡◌, ℕ, suc, ◌+◌, ◌<◌, cond, List, [], ◌∷◌, length, Some, None, Ok, Result, sym, refl, ap, ◌∙◌, subst, arith, eq-eqb}
use Rattle.records.specs.declared.faults.Cause.{Cause}
use Rattle.records.specs.declared.faults.Cause.TheVariants.{WrongSecond}
use Rattle.records.specs.declared.kinds.Signature.{Signature}
use Rattle.records.specs.declared.kinds.Step.{Step as Action}
use Rattle.records.specs.declared.kinds.Record.TheVariants.{ListType, Function, Step}
use Rattle.records.specs.Writing.{step_size}
use Rattle.records.specs.Rows.{Row, next, end, broken}
use Rattle.rules.specs.declared.accounts.Account.{Account}
use Rattle.rules.specs.declared.accounts.Waiting.{Waiting}
use Rattle.rules.specs.declared.findings.Finding.{Finding}
use Rattle.rules.specs.declared.functions.FunctionEntry.{FunctionEntry}
use Rattle.rules.specs.Limits.{waiting_limit}
use Rattle.rules.specs.Types.{ElementsLower}
use Rattle.rules.specs.Programs.{Tables, program, fetch}
use Rattle.rules.specs.Branches.{Straight, Ending, Forking, Fields, Branch, step_then, ends_with, forks_with}
use Rattle.rules.specs.Accounts.{opening}
use Rattle.rules.specs.SecondRound.{fault}
use Rattle.rules.specs.ThirdRound.{between, within, waits, Answer, branch_ended, passed, bodies_pass}
use Rattle.rules.proofs.Contexts.{opening_context}
use Rattle.rules.proofs.Ruled.{AccountDerives, DerivesAt, in_context, rule_breaks, rule_onward, rule_forks, rule_ends}
use Rattle.rules.proofs.Found.{Found, found_broken, found, found_of}
use Rattle.rules.proofs.Chains.{Chain, chain_end, chain_next, Layout, layout_ends, layout_type, layout_function, Each, each_none, each_more}
use Rattle.rules.proofs.StepKinds.{straight_forks, straight_ends, forks_ends, forks_once}

module _ (bytes : List ℕ) (t : Tables) (lower : ElementsLower t.types) where
  -- What derives the round passes: a row that has s at o, and the row behind it.
  data StepAt : Row → ℕ → Action → Type 0 where
    step_at : {o : ℕ} {s : Action} {rest : Row} → Chain bytes rest (o + step_size s) → StepAt (next o (Step s) rest) o s

  at_step : {r : Row} {o : ℕ} (s : Action) → Chain bytes r o → fetch bytes o ≡ Some (Step s) → StepAt r o s
  at_step s (chain_end z f) e = cc
  at_step s (chain_next {r = ListType x} f ch) e = cc
  at_step s (chain_next {r = Function g} f ch) e = cc
  at_step s (chain_next {o} {r = Step s₂} {rest} f ch) e =
      let same : s₂ ≡ s = cc in subst (λ x. StepAt (next o (Step s₂) rest) o x) same (step_at ch)

  -- the answer is that of a row behind a branch that has ended at e
  record Reaches (g : Signature) (answer : Answer) (ws : List Waiting) (e : ℕ) : Type 0 where
    behind : Row
    linked : Chain bytes behind e
    same : answer ≡ branch_ended g ws e (λ stage. bodies_pass t behind stage)

  module _ (g : Signature) where
    complete_onward : (rest : Row) (c : Account) (ws : List Waiting) {v : Result Finding Cause} {o e : ℕ} {s : Action} → Straight s → Fields (program bytes t) s →
        Found bytes t g lower (length ws) c o s v → AccountDerives bytes t g c o (Some (Step s)) →
        ((d : Account) → DerivesAt bytes t g d (o + step_size s) → Reaches g (bodies_pass t rest (within g d ws)) ws e) →
        Reaches g (passed v g o (o + step_size s) ws (λ stage. bodies_pass t rest stage)) ws e
    complete_onward rest c ws straight fields (found_broken never) r ih = absurd (never (λ second fk. absurd (straight_forks straight fk)) fields r)
    complete_onward rest c ws straight fields (found _ _ (rule_breaks never)) r ih = absurd (never r)
    complete_onward rest c ws straight fields (found _ _ (rule_onward {d} _ make unmake)) r ih = ih d (unmake r)
    complete_onward rest c ws straight fields (found _ _ (rule_forks forking make unmake)) r ih = absurd (straight_forks straight forking)
    complete_onward rest c ws straight fields (found _ _ (rule_ends ending r₂)) r ih = absurd (straight_ends straight ending)

    complete_end : (rest : Row) (c : Account) (ws : List Waiting) {v : Result Finding Cause} {o : ℕ} {s : Action} → Ending s → Fields (program bytes t) s →
        Found bytes t g lower (length ws) c o s v → AccountDerives bytes t g c o (Some (Step s)) → Chain bytes rest (o + step_size s) →
        Reaches g (passed v g o (o + step_size s) ws (λ stage. bodies_pass t rest stage)) ws (o + step_size s)
    complete_end rest c ws ending fields (found_broken never) r ch = absurd (never (λ second fk. absurd (forks_ends fk ending)) fields r)
    complete_end rest c ws ending fields (found _ _ (rule_breaks never)) r ch = absurd (never r)
    complete_end rest c ws ending fields (found _ _ (rule_onward straight make unmake)) r ch = absurd (straight_ends straight ending)
    complete_end rest c ws ending fields (found _ _ (rule_forks forking make unmake)) r ch = absurd (forks_ends forking ending)
    complete_end rest c ws ending fields (found _ _ (rule_ends _ r₂)) r ch = record { behind = rest; linked = ch; same = refl }

    -- the first branch has ended where the second starts
    resumed : {answer : Answer} {w : Waiting} {ws : List Waiting} {e : ℕ} → Reaches g answer (w ∷ ws) w.second →
        ((row : Row) → Chain bytes row w.second → Reaches g (bodies_pass t row (within g w.account ws)) ws e) → Reaches g answer ws e
    resumed {w = w} {ws} first second =
        let k = second first.behind first.linked in
        let b = eq-eqb w.second w.second refl in
        record {
          behind = k.behind;
          linked = k.linked;
          same = first.same ∙ ap (λ x. cond x (bodies_pass t first.behind (within g w.account ws)) (fault WrongSecond w.place)) b ∙ k.same;
        }

    complete_forks : (rest : Row) (c : Account) (ws : List Waiting) {v : Result Finding Cause} {o e second : ℕ} {s : Action} → Forking s second → Fields (program bytes t) s →
        length ws < waiting_limit → Found bytes t g lower (length ws) c o s v → AccountDerives bytes t g c o (Some (Step s)) →
        ((d : Account) (w : Waiting) → DerivesAt bytes t g d (o + step_size s) → Reaches g (bodies_pass t rest (within g d (w ∷ ws))) (w ∷ ws) second) →
        ((row : Row) → Chain bytes row second → (d : Account) → DerivesAt bytes t g d second → Reaches g (bodies_pass t row (within g d ws)) ws e) →
        Reaches g (passed v g o (o + step_size s) ws (λ stage. bodies_pass t rest stage)) ws e
    complete_forks rest c ws forking fields room (found_broken never) r one two = absurd (never (λ second fk. room) fields r)
    complete_forks rest c ws forking fields room (found _ _ (rule_breaks never)) r one two = absurd (never r)
    complete_forks rest c ws forking fields room (found _ _ (rule_onward straight make unmake)) r one two = absurd (straight_forks straight forking)
    complete_forks rest c ws {o = o} {second = second} {s} forking fields room (found _ _ (rule_forks {first} {later} {second = second₂} forking₂ make unmake)) r one two =
        let same : second ≡ second₂ = forks_once forking forking₂ in
        let k = unmake r in
        let w = waits o second₂ later in
        resumed {w = w} (subst (λ x. Reaches g (bodies_pass t rest (within g first (w ∷ ws))) (w ∷ ws) x) same (one first w k.0))
        (λ row ch. two row (subst (λ x. Chain bytes row x) (sym same) ch) later (subst (λ x. DerivesAt bytes t g later x) (sym same) k.1))
    complete_forks rest c ws forking fields room (found _ _ (rule_ends ending r₂)) r one two = absurd (forks_ends forking ending)

    on_onward : (c : Account) (ws : List Waiting) {r : Row} {o e : ℕ} {s : Action} → StepAt r o s → Straight s → Fields (program bytes t) s →
        AccountDerives bytes t g c o (Some (Step s)) →
        ((rest : Row) → Chain bytes rest (o + step_size s) → (d : Account) → DerivesAt bytes t g d (o + step_size s) → Reaches g (bodies_pass t rest (within g d ws)) ws e) →
        Reaches g (bodies_pass t r (within g c ws)) ws e
    on_onward c ws (step_at {o} {s} {rest} ch) straight fields k ih =
        complete_onward rest c ws straight fields (found_of bytes t g lower (length ws) c o s) k (λ d kd. ih rest ch d kd)

    on_end : (c : Account) (ws : List Waiting) {r : Row} {o : ℕ} {s : Action} → StepAt r o s → Ending s → Fields (program bytes t) s →
        AccountDerives bytes t g c o (Some (Step s)) → Reaches g (bodies_pass t r (within g c ws)) ws (o + step_size s)
    on_end c ws (step_at {o} {s} {rest} ch) ending fields k = complete_end rest c ws ending fields (found_of bytes t g lower (length ws) c o s) k ch

    on_forks : (c : Account) (ws : List Waiting) {r : Row} {o e second : ℕ} {s : Action} → StepAt r o s → Forking s second → Fields (program bytes t) s →
        length ws < waiting_limit → AccountDerives bytes t g c o (Some (Step s)) →
        ((rest : Row) → Chain bytes rest (o + step_size s) → (d : Account) (w : Waiting) → DerivesAt bytes t g d (o + step_size s) →
        Reaches g (bodies_pass t rest (within g d (w ∷ ws))) (w ∷ ws) second) →
        ((row : Row) → Chain bytes row second → (d : Account) → DerivesAt bytes t g d second → Reaches g (bodies_pass t row (within g d ws)) ws e) →
        Reaches g (bodies_pass t r (within g c ws)) ws e
    on_forks c ws (step_at {o} {s} {rest} ch) forking fields room k one two =
        complete_forks rest c ws forking fields room (found_of bytes t g lower (length ws) c o s) k (λ d w kd. one rest ch d w kd) two

    complete_branch : {n o e : ℕ} → Branch (program bytes t) n o e → (r : Row) → Chain bytes r o → (c : Account) (ws : List Waiting) → length ws ≡ n →
        DerivesAt bytes t g c o → Reaches g (bodies_pass t r (within g c ws)) ws e
    complete_branch (step_then {o = o} s f straight fields br) r ch c ws l k =
        on_onward c ws (at_step s ch f) straight fields (subst (λ x. AccountDerives bytes t g c o x) f k) (λ rest ch₂ d kd. complete_branch br rest ch₂ d ws l kd)
    complete_branch (ends_with {o = o} s f ending fields) r ch c ws l k =
        on_end c ws (at_step s ch f) ending fields (subst (λ x. AccountDerives bytes t g c o x) f k)
    complete_branch (forks_with {o = o} s f forking fields room br br₂) r ch c ws l k =
        on_forks c ws (at_step s ch f) forking fields (omega arith) (subst (λ x. AccountDerives bytes t g c o x) f k)
        (λ rest ch₂ d w kd. complete_branch br rest ch₂ d (w ∷ ws) (ap suc l) kd)
        (λ row ch₂ d kd. complete_branch br₂ row ch₂ d ws l kd)

  on_body : (g : Signature) {answer : Answer} {e : ℕ} → Reaches g answer [] e → ((row : Row) → Chain bytes row e → bodies_pass t row between ≡ Ok tt) → answer ≡ Ok tt
  on_body g n ih = n.same ∙ ih n.behind n.linked

  -- what is laid out, each function deriving, the third round passes
  pub derives_passed : {o : ℕ} {fs : List FunctionEntry} → Layout bytes t o fs → Each bytes t fs → (r : Row) → Chain bytes r o → fetch bytes (length bytes) ≡ None → bodies_pass t r between ≡ Ok tt
  derives_passed (layout_ends z) each_none (end x) ch n = refl
  derives_passed (layout_ends z) each_none (broken x) ch n = elim ch [ ]
  derives_passed (layout_ends z) each_none (next a x rest) (chain_next f ch) n = let q = ap (fetch bytes) z in cc
  derives_passed (layout_type x f l) es (end y) (chain_end z f₂) n = cc
  derives_passed (layout_type x f l) es (broken y) ch n = elim ch [ ]
  derives_passed (layout_type x f l) es (next a (ListType y) rest) (chain_next f₂ ch) n = derives_passed l es rest ch n
  derives_passed (layout_type x f l) es (next a (Function g) rest) (chain_next f₂ ch) n = cc
  derives_passed (layout_type x f l) es (next a (Step s) rest) (chain_next f₂ ch) n = cc
  derives_passed (layout_function g f br l) es (end x) (chain_end z f₂) n = cc
  derives_passed (layout_function g f br l) es (broken x) ch n = elim ch [ ]
  derives_passed (layout_function g f br l) es (next a (ListType y) rest) (chain_next f₂ ch) n = cc
  derives_passed (layout_function g f br l) (each_more k es) (next a (Function h) rest) (chain_next f₂ ch) n =
      let same : h ≡ g = cc in
      let start = in_context bytes t g (sym (opening_context t.types lower g)) k in
      let q = on_body g (complete_branch g br rest ch (opening g) [] refl start) (λ row ch₂. derives_passed l es row ch₂ n) in
      subst (λ x. bodies_pass t rest (within x (opening x) []) ≡ Ok tt) (sym same) q
  derives_passed (layout_function g f br l) es (next a (Step s) rest) (chain_next f₂ ch) n = cc
