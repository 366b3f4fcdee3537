-- Whether a sheet is lawful, with given tables, is decided by the verdict. So a sheet that is known to be lawful, in a way that
-- hides how, is lawful.
use Rattle.std.proofs.Common.{◌≡◌, ℕ, Bool, true, false, eqb, List, [], ◌∷◌, Ok, Err, Result, refl, ap, ◌∙◌, subst, eq-eqb, eqb-true}
use mathlib.Core.Bool.{Bool-set}
use mathlib.Core.Logic.{∥∥₁_elim}
use Rattle.records.specs.declared.faults.Fault.{Fault}
use Rattle.records.specs.declared.kinds.NodeType.{NodeType}
use Rattle.rules.specs.declared.functions.FunctionEntry.{FunctionEntry}
use Rattle.rules.specs.Programs.{Tables}
use Rattle.rules.specs.Lawful.{Lawful}
use Rattle.rules.specs.Tests.{both}
use Rattle.rules.specs.Verdict.{verdict}
use Rattle.rules.proofs.Truth.{split, join}
use Rattle.rules.proofs.Holds.{check_accepts_what_the_rules_derive}

-- a test that decides equality
record Decides (A : Type 0) (same : A → A → Bool) : Type 0 where
  true_same : (a b : A) → same a b ≡ true → a ≡ b
  same_true : (a : A) → same a a ≡ true

numbers : Decides ℕ eqb
numbers = record { true_same = eqb-true; same_true = λ a. eq-eqb a a refl }

module _ (A : Type 0) (same : A → A → Bool) (decides : Decides A same) where
  same_lists : List A → List A → Bool
  same_lists [] [] = true
  same_lists [] (b ∷ ys) = false
  same_lists (a ∷ xs) [] = false
  same_lists (a ∷ xs) (b ∷ ys) = both (same a b) (same_lists xs ys)

  lists_true : (xs ys : List A) → same_lists xs ys ≡ true → xs ≡ ys
  unfolding same_lists
  lists_true [] [] e = refl
  lists_true [] (b ∷ ys) e = cc
  lists_true (a ∷ xs) [] e = cc
  lists_true (a ∷ xs) (b ∷ ys) e =
      let k = split (same a b) (same_lists xs ys) e in
      ap (λ x. x ∷ xs) (decides.true_same a b k.0) ∙ ap (λ zs. b ∷ zs) (lists_true xs ys k.1)

  true_lists : (xs : List A) → same_lists xs xs ≡ true
  unfolding same_lists
  true_lists [] = refl
  true_lists (a ∷ xs) = join (decides.same_true a) (true_lists xs)

  lists : Decides (List A) same_lists
  lists = record { true_same = lists_true; same_true = true_lists }

abbrev same_types : NodeType → NodeType → Bool
same_types a b = both (eqb a.element b.element) (eqb a.amount b.amount)

types : Decides NodeType same_types
types = record {
  true_same = λ a b e.
      let k = split (eqb a.element b.element) (eqb a.amount b.amount) e in
      let x = eqb-true a.element b.element k.0 in
      let y = eqb-true a.amount b.amount k.1 in
      λ i. record { element = x i; amount = y i };
  same_true = λ a. join (numbers.same_true a.element) (numbers.same_true a.amount);
}

abbrev same_fields : FunctionEntry → FunctionEntry → List ℕ × List ℕ
same_fields a b = (
  a.body ∷ (a.signature.count ∷ (a.signature.result ∷ (a.signature.entry ∷ (a.signature.remainder ∷ a.signature.params)))),
  b.body ∷ (b.signature.count ∷ (b.signature.result ∷ (b.signature.entry ∷ (b.signature.remainder ∷ b.signature.params)))),
)

abbrev same_functions : FunctionEntry → FunctionEntry → Bool
same_functions a b = same_lists ℕ eqb numbers (same_fields a b).0 (same_fields a b).1

functions_true : (a b : FunctionEntry) → same_functions a b ≡ true → a ≡ b
functions_true a b e =
    let k = lists_true ℕ eqb numbers (same_fields a b).0 (same_fields a b).1 e in
    let body : a.body ≡ b.body = cc in
    let count : a.signature.count ≡ b.signature.count = cc in
    let result : a.signature.result ≡ b.signature.result = cc in
    let entry : a.signature.entry ≡ b.signature.entry = cc in
    let remainder : a.signature.remainder ≡ b.signature.remainder = cc in
    let params : a.signature.params ≡ b.signature.params = cc in
    λ i. record { signature = record { count = count i; params = params i; result = result i; entry = entry i; remainder = remainder i }; body = body i }

functions : Decides FunctionEntry same_functions
functions = record { true_same = functions_true; same_true = λ a. true_lists ℕ eqb numbers (same_fields a a).0 }

abbrev same_tables : Tables → Tables → Bool
same_tables t u = both (same_lists NodeType same_types types t.types u.types) (same_lists FunctionEntry same_functions functions t.functions u.functions)

tables_true : (t u : Tables) → same_tables t u ≡ true → t ≡ u
tables_true t u e =
    let k = split (same_lists NodeType same_types types t.types u.types) (same_lists FunctionEntry same_functions functions t.functions u.functions) e in
    let x = lists_true NodeType same_types types t.types u.types k.0 in
    let y = lists_true FunctionEntry same_functions functions t.functions u.functions k.1 in
    λ i. record { types = x i; functions = y i }

true_tables : (t u : Tables) → t ≡ u → same_tables t u ≡ true
true_tables t u e =
    subst (λ x. same_tables t x ≡ true) e (join (true_lists NodeType same_types types t.types) (true_lists FunctionEntry same_functions functions t.functions))

-- whether this is the answer that accepts these tables
abbrev accepts : Result Tables Fault → Tables → Bool
accepts (Ok u) t = same_tables u t
accepts (Err f) t = false

accepts_true : (v : Result Tables Fault) (t : Tables) → accepts v t ≡ true → v ≡ Ok t
accepts_true (Ok u) t e = ap (λ (x : Tables). Ok x) (tables_true u t e)
accepts_true (Err f) t e = cc

true_accepts : (v : Result Tables Fault) (t : Tables) → v ≡ Ok t → accepts v t ≡ true
true_accepts (Ok u) t e = let same : u ≡ t = cc in true_tables u t same
true_accepts (Err f) t e = cc

pub lawful_again : (bytes : List ℕ) (t : Tables) → ∥ Lawful bytes t ∥₁ → Lawful bytes t
lawful_again bytes t hidden =
    let test : accepts (verdict bytes) t ≡ true =
    ∥∥₁_elim hidden (Bool-set (accepts (verdict bytes) t) true) (λ l. true_accepts (verdict bytes) t ((check_accepts_what_the_rules_derive bytes t).1 l)) in
    (check_accepts_what_the_rules_derive bytes t).0 (accepts_true (verdict bytes) t test)
