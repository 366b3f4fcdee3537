-- What has the form of a sheet passes the second round, and is laid out for the third.
use Rattle.std.proofs.Common.{◌≡◌, ℕ, zero, suc, ◌+◌, ◌-◌, ◌<◌, ◌≤◌, true, List, [], ◌∷◌, ◌++◌, length, get_or, sym, refl, ap, ◌∙◌, subst, append_assoc, append-nil, arith, length-append, eq-eqb}
use Rattle.records.specs.declared.kinds.NodeType.{NodeType}
use Rattle.records.specs.declared.kinds.Record.TheVariants.{ListType, Function, Step}
use Rattle.rules.specs.declared.functions.FunctionEntry.{FunctionEntry}
use Rattle.rules.specs.Limits.{type_limit, function_limit}
use Rattle.rules.specs.Types.{number, list, no_record, type_record, type_of, ElementsLower}
use Rattle.rules.specs.Programs.{Tables, program, signature_of}
use Rattle.rules.specs.Branches.{Branch, step_then, ends_with, forks_with}
use Rattle.rules.specs.Form.{TypeRecords, no_types, type_then, Functions, no_functions, function_then, Signed, Form}
use Rattle.rules.specs.SecondRound.{numbers_listed, with_type, with_function, no_tables}
use Rattle.rules.proofs.Truth.{join}
use Rattle.rules.proofs.Numbered.{type_of_list, number_only, true_list_type}
use Rattle.rules.proofs.Chains.{Layout, layout_ends, layout_type, layout_function}
use Rattle.rules.proofs.Cuts.{Whole, whole_end, whole_next}
use Rattle.rules.proofs.Gathers.{Adds, adds_none, adds_type, adds_function, adds_step}
use Rattle.rules.proofs.Lower.{type_record_at}

positive_list : (ts : List NodeType) (t a : ℕ) → type_of ts t ≡ list number a → 0 < t
positive_list ts zero a e = cc
positive_list ts (suc t) a e = omega arith

-- the number of a list of Number passes the test
list_numbers : (ts : List NodeType) → ElementsLower ts → (t a : ℕ) → t ≤ length ts → type_of ts t ≡ list number a → numbers_listed ts t ≡ true
list_numbers ts lower t a known e =
    let p = positive_list ts t a e in
    let q = sym e ∙ type_of_list ts lower t p in
    let z : number ≡ type_of ts (type_record ts t).element = cc in
    join (true_list_type (record { positive = p; known = known })) (eq-eqb (type_record ts t).element 0 (number_only ts (type_record ts t).element (sym z)))

module _ (bytes : List ℕ) (t : Tables) where
  -- a row of records
  branch_whole : {w o e : ℕ} → Branch (program bytes t) w o e → Whole bytes e → Whole bytes o
  branch_whole (step_then s f straight fields br) k = whole_next (Step s) f (branch_whole br k)
  branch_whole (ends_with s f ending fields) k = whole_next (Step s) f k
  branch_whole (forks_with s f forking fields room br br₂) k = whole_next (Step s) f (branch_whole br (branch_whole br₂ k))

  functions_whole : {o e : ℕ} {fs : List FunctionEntry} → Functions (program bytes t) o fs e → Whole bytes e → Whole bytes o
  functions_whole no_functions k = k
  functions_whole (function_then g f br rest) k = whole_next (Function g) f (branch_whole br (functions_whole rest k))

  types_whole : {o e : ℕ} {ts : List NodeType} → TypeRecords (program bytes t) o ts e → Whole bytes e → Whole bytes o
  types_whole no_types k = k
  types_whole (type_then x f rest) k = whole_next (ListType x) f (types_whole rest k)

  pub form_whole : Form bytes t → Whole bytes 0
  form_whole form = types_whole form.types (functions_whole form.functions (whole_end refl))

  -- a layout
  functions_layout : {o e : ℕ} {fs : List FunctionEntry} → e ≡ length bytes → Functions (program bytes t) o fs e → Layout bytes t o fs
  functions_layout z no_functions = layout_ends z
  functions_layout z (function_then g f br rest) = layout_function g f br (functions_layout z rest)

  types_layout : {o e : ℕ} {ts : List NodeType} {fs : List FunctionEntry} → TypeRecords (program bytes t) o ts e → Layout bytes t e fs → Layout bytes t o fs
  types_layout no_types l = l
  types_layout (type_then x f rest) l = layout_type x f (types_layout rest l)

  pub form_layout : Form bytes t → Layout bytes t 0 t.functions
  form_layout form = types_layout form.types (functions_layout refl form.functions)

  -- tables
  branch_adds : {w o e : ℕ} {a u : Tables} → Branch (program bytes t) w o e → 0 < length a.functions → Adds bytes e a u → Adds bytes o a u
  branch_adds (step_then s f straight fields br) some k = adds_step s f some (branch_adds br some k)
  branch_adds (ends_with s f ending fields) some k = adds_step s f some k
  branch_adds (forks_with s f forking fields room br br₂) some k = adds_step s f some (branch_adds br some (branch_adds br₂ some k))

  abbrev with_functions : Tables → List FunctionEntry → Tables
  with_functions a fs = record { types = a.types; functions = a.functions ++ fs }

  functions_add : {o e : ℕ} {fs : List FunctionEntry} → e ≡ length bytes → Functions (program bytes t) o fs e → (a : Tables) →
      length a.functions + length fs ≤ function_limit → 0 < length a.functions + length fs → ((f : ℕ) → f < length fs → Signed a.types (signature_of fs f)) →
      (length a.functions ≡ 0 → numbers_listed a.types (signature_of fs 0).result ≡ true) → Adds bytes o a (with_functions a fs)
  functions_add {o} z no_functions a few some signed first =
      subst (λ fs. Adds bytes o a (record { types = a.types; functions = fs })) (sym (append-nil a.functions)) (adds_none z (omega arith))
  functions_add {o} z (function_then {fs = fs} g f br rest) a few some signed first =
      let x : FunctionEntry = record { signature = g; body = o + 11 } in
      let longer = length-append a.functions (x ∷ []) in
      let k = functions_add z rest (with_function a g (o + 11)) (omega arith) (omega arith) (λ i h. signed (suc i) (omega arith)) (λ e. absurd (omega arith)) in
      subst (λ gs. Adds bytes o a (record { types = a.types; functions = gs })) (append_assoc a.functions (x ∷ []) fs)
      (adds_function g f (omega arith) (signed 0 (omega arith)) first (branch_adds br (omega arith) k))

  types_add : {o e : ℕ} {ts : List NodeType} → TypeRecords (program bytes t) o ts e → (a u : Tables) → a.functions ≡ [] → length a.types + length ts ≤ type_limit →
      ((i : ℕ) → i < length ts → (get_or ts i no_record).element ≤ length a.types + i) →
      Adds bytes e (record { types = a.types ++ ts; functions = a.functions }) u → Adds bytes o a u
  types_add {o} no_types a u none few elements k =
      subst (λ ts. Adds bytes o (record { types = ts; functions = a.functions }) u) (append-nil a.types) k
  types_add (type_then {e = e} {ts} x f rest) a u none few elements k =
      let longer = length-append a.types (x ∷ []) in
      let low = elements 0 (omega arith) in
      adds_type x f (ap length none) (omega arith) (omega arith)
      (types_add rest (with_type a x) u none (omega arith) (λ i h. let m = elements (suc i) (omega arith) in omega arith)
      (subst (λ us. Adds bytes e (record { types = us; functions = a.functions }) u) (sym (append_assoc a.types (x ∷ []) ts)) k))

  pub form_adds : Form bytes t → Adds bytes 0 no_tables t
  form_adds form =
      let ts = t.types in
      let few = form.few_functions in
      let few_types = form.few_types in
      let some = form.some_function in
      types_add form.types no_tables t refl (omega arith)
      (λ i h.
      let l = subst (λ x. x.element < i + 1) (type_record_at ts (i + 1) (omega arith)) (form.lower (i + 1) (omega arith)) in
      let n : i + 1 - 1 ≡ i = omega arith in
      let m = subst (λ j. (get_or ts j no_record).element < i + 1) n l in omega arith)
      (functions_add refl form.functions (record { types = ts; functions = [] }) (omega arith) (omega arith) form.signed
      (λ _. list_numbers ts form.lower (signature_of t.functions 0).result form.amount (form.signed 0 some).result form.result))
