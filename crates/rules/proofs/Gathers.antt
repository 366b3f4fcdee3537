-- The second round gathers tables exactly where every type and function record fits those before it.
use Rattle.std.proofs.Common.{◌≡◌, ℕ, ◌+◌, ◌<◌, ◌≤◌, Bool, true, false, cond, eqb, ltb, leb, List, length, Some, None, Ok, Result, sym, refl, ap, ◌∙◌, subst, arith, ltb-true, lt-ltb, eq-eqb, ne_eqb, eqb-true, le-leb, leb-true}
use borrow.Author.Tests.{eqb-false}
use Rattle.records.specs.declared.faults.Cause.{Cause}
use Rattle.records.specs.declared.faults.Cause.TheVariants.{OutOfOrder, NoFunction, TooMany, ElementNotLower, BadSignature, BadResult}
use Rattle.records.specs.declared.faults.Fault.{Fault}
use Rattle.records.specs.declared.kinds.NodeType.{NodeType}
use Rattle.records.specs.declared.kinds.Signature.{Signature}
use Rattle.records.specs.declared.kinds.Step.{Step as Action}
use Rattle.records.specs.declared.kinds.Record.TheVariants.{ListType, Function, Step}
use Rattle.records.specs.Writing.{step_size}
use Rattle.records.specs.Rows.{Row, next, end, broken}
use Rattle.rules.specs.Limits.{type_limit, function_limit, parameter_limit}
use Rattle.rules.specs.Programs.{Tables, fetch}
use Rattle.rules.specs.Form.{Signed}
use Rattle.rules.specs.Tests.{need, both, padded}
use Rattle.rules.specs.SecondRound.{fault, signature_right, numbers_listed, with_type, with_function, go_on, gathered}
use Rattle.rules.proofs.Truth.{split, join}
use Rattle.rules.proofs.Numbered.{padded_true, true_padded}
use Rattle.rules.proofs.Chains.{Chain, chain_end, chain_next}

-- Adds bytes o t u: from o on, the records add to the tables t, one after the other, and make them u.
pub data Adds (bytes : List ℕ) : ℕ → Tables → Tables → Type 0 where
  adds_none : {o : ℕ} {t : Tables} → o ≡ length bytes → 0 < length t.functions → Adds bytes o t t
  adds_type : {o : ℕ} {t u : Tables} (x : NodeType) → fetch bytes o ≡ Some (ListType x) → length t.functions ≡ 0 → length t.types < type_limit →
      x.element ≤ length t.types → Adds bytes (o + 4) (with_type t x) u → Adds bytes o t u
  adds_function : {o : ℕ} {t u : Tables} (g : Signature) → fetch bytes o ≡ Some (Function g) → length t.functions < function_limit → Signed t.types g →
      (length t.functions ≡ 0 → numbers_listed t.types g.result ≡ true) → Adds bytes (o + 11) (with_function t g (o + 11)) u → Adds bytes o t u
  adds_step : {o : ℕ} {t u : Tables} (s : Action) → fetch bytes o ≡ Some (Step s) → 0 < length t.functions → Adds bytes (o + step_size s) t u → Adds bytes o t u

-- a test of the round has passed
test_passed : (b : Bool) (cause : Cause) (o : Result (Unit {0}) Cause) (at : ℕ) (rest : Result Tables Fault) (u : Tables) →
    go_on (need cause b o) at rest ≡ Ok u → (b ≡ true) × (go_on o at rest ≡ Ok u)
test_passed true cause o at rest u e = (refl, e)
test_passed false cause o at rest u e = cc

passes_test : (b : Bool) (cause : Cause) (o : Result (Unit {0}) Cause) (at : ℕ) (rest : Result Tables Fault) → b ≡ true → go_on (need cause b o) at rest ≡ go_on o at rest
passes_test b cause o at rest e = ap (λ x. go_on (need cause x o) at rest) e

pub signed_true : (ts : List NodeType) (g : Signature) → signature_right (length ts) g ≡ true → Signed ts g
signed_true ts g e =
    let a = split (leb g.count parameter_limit) (both (padded (length ts + 1) g.count g.params) (leb g.result (length ts))) e in
    let b = split (padded (length ts + 1) g.count g.params) (leb g.result (length ts)) a.1 in
    record {
      few = leb-true g.count parameter_limit a.0;
      params = padded_true (length ts + 1) g.count g.params b.0;
      result = leb-true g.result (length ts) b.1;
    }

true_signed : {ts : List NodeType} {g : Signature} → Signed ts g → signature_right (length ts) g ≡ true
true_signed {ts} {g} s = join (le-leb g.count parameter_limit s.few) (join (true_padded s.params) (le-leb g.result (length ts) s.result))

first_only : (n : ℕ) (b : Bool) → cond (eqb n 0) b true ≡ true → n ≡ 0 → b ≡ true
first_only n b e z = ap (λ x. cond x b true) (sym (eq-eqb n 0 z)) ∙ e

only_first : (n : ℕ) (b : Bool) → (n ≡ 0 → b ≡ true) → cond (eqb n 0) b true ≡ true
only_first n b f = go (eqb n 0) refl
  where
    go : (x : Bool) → eqb n 0 ≡ x → cond x b true ≡ true
    go true e = f (eqb-true n 0 e)
    go false e = refl

module _ (bytes : List ℕ) where
  ends_add : (t u : Tables) (o : ℕ) (b : Bool) → eqb (length t.functions) 0 ≡ b → o ≡ length bytes →
      cond {A = Result Tables Fault} b (fault NoFunction o) (Ok t) ≡ Ok u → Adds bytes o t u
  ends_add t u o true e z q = cc
  ends_add t u o false e z q =
      let same : t ≡ u = cc in
      let n : length t.functions ≡ 0 → ⊥ = eqb-false (length t.functions) 0 e in
      subst (λ x. Adds bytes o t x) same (adds_none z (omega arith))

  pub gathered_adds : {r : Row} {o : ℕ} → Chain bytes r o → (t u : Tables) → gathered r t ≡ Ok u → Adds bytes o t u
  gathered_adds (chain_end {o} z f) t u q = ends_add t u o (eqb (length t.functions) 0) refl z q
  gathered_adds (chain_next {o} {r = ListType x} f ch) t u q =
      let a = test_passed (eqb (length t.functions) 0) OutOfOrder _ o _ u q in
      let b = test_passed (ltb (length t.types) type_limit) TooMany _ o _ u a.1 in
      let c = test_passed (leb x.element (length t.types)) ElementNotLower (Ok tt) o _ u b.1 in
      adds_type x f (eqb-true (length t.functions) 0 a.0) (ltb-true (length t.types) type_limit b.0) (leb-true x.element (length t.types) c.0)
      (gathered_adds ch (with_type t x) u c.1)
  gathered_adds (chain_next {o} {r = Function g} f ch) t u q =
      let a = test_passed (ltb (length t.functions) function_limit) TooMany _ o _ u q in
      let b = test_passed (signature_right (length t.types) g) BadSignature _ o _ u a.1 in
      let c = test_passed (cond (eqb (length t.functions) 0) (numbers_listed t.types g.result) true) BadResult (Ok tt) o _ u b.1 in
      adds_function g f (ltb-true (length t.functions) function_limit a.0) (signed_true t.types g b.0)
      (λ z. first_only (length t.functions) (numbers_listed t.types g.result) c.0 z) (gathered_adds ch (with_function t g (o + 11)) u c.1)
  gathered_adds (chain_next {o} {r = Step s} f ch) t u q =
      let a = test_passed (ltb 0 (length t.functions)) OutOfOrder (Ok tt) o _ u q in
      adds_step s f (ltb-true 0 (length t.functions) a.0) (gathered_adds ch t u a.1)

  pub adds_gathered : {o : ℕ} {t u : Tables} → Adds bytes o t u → (r : Row) → Chain bytes r o → fetch bytes (length bytes) ≡ None → gathered r t ≡ Ok u
  adds_gathered (adds_none {t = t} z n) (end e) ch stop =
      ap (λ x. cond {A = Result Tables Fault} x (fault NoFunction e) (Ok t)) (ne_eqb (length t.functions) 0 (λ k. omega arith))
  adds_gathered (adds_none z n) (broken x) ch stop = elim ch [ ]
  adds_gathered (adds_none z n) (next a x rest) (chain_next f ch) stop = let q = ap (fetch bytes) z in cc
  adds_gathered (adds_type x f z n l k) (end e) (chain_end z₂ f₂) stop = cc
  adds_gathered (adds_type x f z n l k) (broken e) ch stop = elim ch [ ]
  adds_gathered (adds_type {o} {t} x f z n l k) (next a (ListType y) rest) (chain_next f₂ ch) stop =
      let same : y ≡ x = cc in
      ap (λ w. gathered (next o (ListType w) rest) t) same
      ∙ passes_test (eqb (length t.functions) 0) OutOfOrder _ o _ (eq-eqb (length t.functions) 0 z)
      ∙ passes_test (ltb (length t.types) type_limit) TooMany _ o _ (lt-ltb (length t.types) type_limit n)
      ∙ passes_test (leb x.element (length t.types)) ElementNotLower (Ok tt) o _ (le-leb x.element (length t.types) l) ∙ adds_gathered k rest ch stop
  adds_gathered (adds_type x f z n l k) (next a (Function y) rest) (chain_next f₂ ch) stop = cc
  adds_gathered (adds_type x f z n l k) (next a (Step y) rest) (chain_next f₂ ch) stop = cc
  adds_gathered (adds_function g f n s r k) (end e) (chain_end z₂ f₂) stop = cc
  adds_gathered (adds_function g f n s r k) (broken e) ch stop = elim ch [ ]
  adds_gathered (adds_function g f n s r k) (next a (ListType y) rest) (chain_next f₂ ch) stop = cc
  adds_gathered (adds_function {o} {t} g f n s r k) (next a (Function h) rest) (chain_next f₂ ch) stop =
      let same : h ≡ g = cc in
      ap (λ w. gathered (next o (Function w) rest) t) same
      ∙ passes_test (ltb (length t.functions) function_limit) TooMany _ o _ (lt-ltb (length t.functions) function_limit n)
      ∙ passes_test (signature_right (length t.types) g) BadSignature _ o _ (true_signed s)
      ∙ passes_test (cond (eqb (length t.functions) 0) (numbers_listed t.types g.result) true) BadResult (Ok tt) o _
      (only_first (length t.functions) (numbers_listed t.types g.result) r) ∙ adds_gathered k rest ch stop
  adds_gathered (adds_function g f n s r k) (next a (Step y) rest) (chain_next f₂ ch) stop = cc
  adds_gathered (adds_step s f n k) (end e) (chain_end z₂ f₂) stop = cc
  adds_gathered (adds_step s f n k) (broken e) ch stop = elim ch [ ]
  adds_gathered (adds_step s f n k) (next a (ListType y) rest) (chain_next f₂ ch) stop = cc
  adds_gathered (adds_step s f n k) (next a (Function y) rest) (chain_next f₂ ch) stop = cc
  adds_gathered (adds_step {o} {t} s f n k) (next a (Step y) rest) (chain_next f₂ ch) stop =
      let same : y ≡ s = cc in
      ap (λ w. gathered (next o (Step w) rest) t) same
      ∙ passes_test (ltb 0 (length t.functions)) OutOfOrder (Ok tt) o _ (lt-ltb 0 (length t.functions) n)
      ∙ adds_gathered k rest (subst (λ w. Chain bytes rest (o + step_size w)) same ch) stop
