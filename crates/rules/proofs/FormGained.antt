-- What passes the second and the third round has the form of a sheet.
use Rattle.std.proofs.Common.{◌≡◌, ℕ, zero, suc, ◌+◌, ◌<◌, ◌≤◌, true, eqb, List, [], ◌∷◌, ◌++◌, length, Some, sym, refl, ap, ◌∙◌, subst, append_assoc, append-nil, arith, length-append, eqb-true}
use Rattle.records.specs.declared.kinds.NodeType.{NodeType}
use Rattle.records.specs.declared.kinds.Signature.{Signature}
use Rattle.records.specs.declared.kinds.Step.{Step as Action}
use Rattle.records.specs.declared.kinds.Record.TheVariants.{ListType, Function, Step}
use Rattle.records.specs.Writing.{step_size}
use Rattle.rules.specs.declared.functions.FunctionEntry.{FunctionEntry}
use Rattle.rules.specs.Limits.{byte_limit, type_limit, function_limit}
use Rattle.rules.specs.Types.{number, list, type_record, type_of, ElementsLower}
use Rattle.rules.specs.Programs.{Tables, program, fetch, signature_of}
use Rattle.rules.specs.Branches.{Branch, step_then, ends_with, forks_with}
use Rattle.rules.specs.Form.{TypeRecords, no_types, type_then, Functions, no_functions, function_then, Signed, Form}
use Rattle.rules.specs.Tests.{is_list_type}
use Rattle.rules.specs.SecondRound.{numbers_listed, with_type, with_function, no_tables}
use Rattle.rules.proofs.Truth.{split}
use Rattle.rules.proofs.Numbered.{type_of_list, list_type_true}
use Rattle.rules.proofs.Chains.{Layout, layout_ends, layout_type, layout_function}
use Rattle.rules.proofs.Cuts.{fetch_end}
use Rattle.rules.proofs.Gathers.{Adds, adds_none, adds_type, adds_function, adds_step}

-- the type of a number that passes the test
numbers_list : (ts : List NodeType) → ElementsLower ts → (t : ℕ) → numbers_listed ts t ≡ true → type_of ts t ≡ list number (type_record ts t).amount
numbers_list ts lower t e =
    let k = split (is_list_type ts t) (eqb (type_record ts t).element 0) e in
    type_of_list ts lower t (list_type_true ts t k.0).positive
    ∙ ap (λ x. list (type_of ts x) (type_record ts t).amount) (eqb-true (type_record ts t).element 0 k.1)

module _ (bytes : List ℕ) (t : Tables) where
  -- steps add nothing to the tables
  adds_behind : {o : ℕ} {a u : Tables} (s : Action) → fetch bytes o ≡ Some (Step s) → Adds bytes o a u → Adds bytes (o + step_size s) a u
  adds_behind {o} s f (adds_none z n) = let e = fetch_end bytes o (omega arith) in cc
  adds_behind s f (adds_type x f₂ z n l k) = cc
  adds_behind s f (adds_function g f₂ n sg r k) = cc
  adds_behind {o} {a} {u} s f (adds_step s₂ f₂ n k) = let same : s₂ ≡ s = cc in subst (λ x. Adds bytes (o + step_size x) a u) same k

  adds_behind_branch : {w o e : ℕ} → Branch (program bytes t) w o e → {a u : Tables} → Adds bytes o a u → Adds bytes e a u
  adds_behind_branch (step_then s f straight fields br) k = adds_behind_branch br (adds_behind s f k)
  adds_behind_branch (ends_with s f ending fields) k = adds_behind s f k
  adds_behind_branch (forks_with s f forking fields room br br₂) k = adds_behind_branch br₂ (adds_behind_branch br (adds_behind s f k))

  -- what the functions from o on add to tables that have some
  record FunctionsAdded (o : ℕ) (a u : Tables) (es : List FunctionEntry) : Type 0 where
    stand : Functions (program bytes t) o es (length bytes)
    types_are : u.types ≡ a.types
    functions_are : u.functions ≡ a.functions ++ es
    few : length u.functions ≤ function_limit
    signed : (f : ℕ) → f < length es → Signed a.types (signature_of es f)

  one_function_more : {o m : ℕ} {a u : Tables} {es : List FunctionEntry} (g : Signature) → fetch bytes o ≡ Some (Function g) → Branch (program bytes t) 0 (o + 11) m →
      Signed a.types g → FunctionsAdded m (with_function a g (o + 11)) u es → FunctionsAdded o a u (record { signature = g; body = o + 11 } ∷ es)
  one_function_more {o} {a = a} {es = es} g f br s k = record {
    stand = function_then g f br k.stand;
    types_are = k.types_are;
    functions_are = k.functions_are ∙ append_assoc a.functions (record { signature = g; body = o + 11 } ∷ []) es;
    few = k.few;
    signed = all;
  }
    where
      all : (i : ℕ) → i < suc (length es) → Signed a.types (signature_of (record { signature = g; body = o + 11 } ∷ es) i)
      all zero h = s
      all (suc i) h = k.signed i (omega arith)

  functions_end : {o : ℕ} {a u : Tables} → o ≡ length bytes → length a.functions ≤ function_limit → Adds bytes o a u → FunctionsAdded o a u []
  functions_end {o} {a} z few (adds_none z₂ n) = record {
    stand = subst (λ e. Functions (program bytes t) o [] e) z no_functions;
    types_are = refl;
    functions_are = sym (append-nil a.functions);
    few = few;
    signed = λ f h. absurd (omega arith);
  }
  functions_end {o} z few (adds_type x f z₂ n l k) = let e = fetch_end bytes o (omega arith) in cc
  functions_end {o} z few (adds_function g f n s r k) = let e = fetch_end bytes o (omega arith) in cc
  functions_end {o} z few (adds_step s f n k) = let e = fetch_end bytes o (omega arith) in cc

  functions_added : {o : ℕ} {es : List FunctionEntry} → Layout bytes t o es → {a u : Tables} → 0 < length a.functions → length a.functions ≤ function_limit →
      Adds bytes o a u → FunctionsAdded o a u es
  functions_added (layout_ends z) some few k = functions_end z few k
  functions_added (layout_type {o} x f l) some few (adds_none z n) = let e = fetch_end bytes o (omega arith) in cc
  functions_added (layout_type x f l) some few (adds_type y f₂ z n low k) = absurd (omega arith)
  functions_added (layout_type x f l) some few (adds_function g f₂ n s r k) = cc
  functions_added (layout_type x f l) some few (adds_step s f₂ n k) = cc
  functions_added (layout_function {o} g f br l) some few (adds_none z n) = let e = fetch_end bytes o (omega arith) in cc
  functions_added (layout_function g f br l) some few (adds_type y f₂ z n low k) = cc
  functions_added (layout_function {o} {fs = es} g f br l) {a} {u} some few (adds_function h f₂ n s r k) =
      let same : h ≡ g = cc in
      let longer = length-append a.functions (record { signature = h; body = o + 11 } ∷ []) in
      let rest = functions_added l {a = with_function a h (o + 11)} {u = u} (omega arith) (omega arith) (adds_behind_branch br k) in
      subst (λ x. FunctionsAdded o a u (record { signature = x; body = o + 11 } ∷ es)) same
      (one_function_more h (f ∙ ap (λ x. Some (Function x)) (sym same)) br s rest)
  functions_added (layout_function g f br l) some few (adds_step s f₂ n k) = cc

  -- what the records from o on add to tables that have no function
  record TypesAdded (o : ℕ) (a u : Tables) (es : List FunctionEntry) : Type 0 where
    behind : ℕ
    added : List NodeType
    stand : TypeRecords (program bytes t) o added behind
    types_are : u.types ≡ a.types ++ added
    few_types : length u.types ≤ type_limit
    functions : Functions (program bytes t) behind es (length bytes)
    functions_are : u.functions ≡ es
    few : length u.functions ≤ function_limit
    some : 0 < length es
    signed : (f : ℕ) → f < length es → Signed u.types (signature_of es f)
    first : numbers_listed u.types (signature_of es 0).result ≡ true

  one_type_more : {o : ℕ} {a u : Tables} {es : List FunctionEntry} (x : NodeType) → fetch bytes o ≡ Some (ListType x) →
      TypesAdded (o + 4) (with_type a x) u es → TypesAdded o a u es
  one_type_more {a = a} x f k = record {
    behind = k.behind;
    added = x ∷ k.added;
    stand = type_then x f k.stand;
    types_are = k.types_are ∙ append_assoc a.types (x ∷ []) k.added;
    few_types = k.few_types;
    functions = k.functions;
    functions_are = k.functions_are;
    few = k.few;
    some = k.some;
    signed = k.signed;
    first = k.first;
  }

  first_function : {o m : ℕ} {a u : Tables} {es : List FunctionEntry} (g : Signature) → fetch bytes o ≡ Some (Function g) → Branch (program bytes t) 0 (o + 11) m →
      a.functions ≡ [] → length a.types ≤ type_limit → Signed a.types g → numbers_listed a.types g.result ≡ true →
      FunctionsAdded m (with_function a g (o + 11)) u es → TypesAdded o a u (record { signature = g; body = o + 11 } ∷ es)
  first_function {o} {a = a} {u} {es} g f br none few s first k =
      let all = one_function_more {a = a} {u = u} g f br s k in
      let l = ap length all.types_are in
      record {
        behind = o;
        added = [];
        stand = no_types;
        types_are = all.types_are ∙ sym (append-nil a.types);
        few_types = omega arith;
        functions = all.stand;
        functions_are = all.functions_are ∙ ap (λ xs. xs ++ (record { signature = g; body = o + 11 } ∷ es)) none;
        few = all.few;
        some = omega arith;
        signed = λ i h. subst (λ ts. Signed ts (signature_of (record { signature = g; body = o + 11 } ∷ es) i)) (sym all.types_are) (all.signed i h);
        first = subst (λ ts. numbers_listed ts g.result ≡ true) (sym all.types_are) first;
      }

  types_added : {o : ℕ} {es : List FunctionEntry} → Layout bytes t o es → {a u : Tables} → a.functions ≡ [] → length a.types ≤ type_limit →
      Adds bytes o a u → TypesAdded o a u es
  types_added (layout_ends z) none few (adds_none z₂ n) = let l = ap length none in absurd (omega arith)
  types_added (layout_ends {o} z) none few (adds_type y f₂ z₂ n low k) = let e = fetch_end bytes o (omega arith) in cc
  types_added (layout_ends {o} z) none few (adds_function g f₂ n s r k) = let e = fetch_end bytes o (omega arith) in cc
  types_added (layout_ends {o} z) none few (adds_step s f₂ n k) = let e = fetch_end bytes o (omega arith) in cc
  types_added (layout_type x f l) none few (adds_none z n) = let l = ap length none in absurd (omega arith)
  types_added (layout_type {o} {fs = es} x f l) {a} {u} none few (adds_type y f₂ z n low k) =
      let longer = length-append a.types (y ∷ []) in one_type_more y f₂ (types_added l {a = with_type a y} {u = u} none (omega arith) k)
  types_added (layout_type x f l) none few (adds_function g f₂ n s r k) = cc
  types_added (layout_type x f l) none few (adds_step s f₂ n k) = cc
  types_added (layout_function g f br l) none few (adds_none z n) = let l = ap length none in absurd (omega arith)
  types_added (layout_function g f br l) none few (adds_type y f₂ z n low k) = cc
  types_added (layout_function {o} {fs = es} g f br l) {a} {u} none few (adds_function h f₂ n s r k) =
      let same : h ≡ g = cc in
      let empty = ap length none in
      let longer = length-append a.functions (record { signature = h; body = o + 11 } ∷ []) in
      let rest = functions_added l {a = with_function a h (o + 11)} {u = u} (omega arith) (omega arith) (adds_behind_branch br k) in
      subst (λ x. TypesAdded o a u (record { signature = x; body = o + 11 } ∷ es)) same
      (first_function h (f ∙ ap (λ x. Some (Function x)) (sym same)) br none few s (r empty) rest)
  types_added (layout_function g f br l) none few (adds_step s f₂ n k) = cc

  pub record Formed (es : List FunctionEntry) : Type 0 where
    pub form : Form bytes t
    pub entries_are : t.functions ≡ es

  -- the form, from what the two rounds give
  pub formed : {es : List FunctionEntry} → length bytes ≤ byte_limit → ElementsLower t.types → Layout bytes t 0 es → Adds bytes 0 no_tables t → Formed es
  formed {es} short lower l k =
      let a = types_added l {a = no_tables} {u = t} refl (omega arith) k in
      let same = sym a.functions_are in
      let n = ap length same in
      let some = a.some in
      record {
        form = record {
          short = short;
          behind_types = a.behind;
          types = subst (λ ts. TypeRecords (program bytes t) 0 ts a.behind) (sym a.types_are) a.stand;
          functions = subst (λ fs. Functions (program bytes t) a.behind fs (length bytes)) same a.functions;
          few_types = a.few_types;
          lower = lower;
          some_function = omega arith;
          few_functions = a.few;
          signed = λ f h. subst (λ fs. Signed t.types (signature_of fs f)) same (a.signed f (omega arith));
          amount = (type_record t.types (signature_of es 0).result).amount;
          result = ap (λ fs. type_of t.types (signature_of fs 0).result) (sym same) ∙ numbers_list t.types lower (signature_of es 0).result a.first;
        };
        entries_are = a.functions_are;
      }
