-- The form of a sheet: type records, then functions, each with its body; and the limits. Rests on the form of a body.
use Rattle.std.specs.Prelude.{◌≡◌, ℕ, ◌+◌, ◌<◌, ◌≤◌, List, [], ◌∷◌, length, Some}
use Rattle.records.specs.declared.kinds.NodeType.{NodeType}
use Rattle.records.specs.declared.kinds.Signature.{Signature}
use Rattle.records.specs.declared.kinds.Record.TheVariants.{ListType, Function}
use Rattle.rules.specs.declared.functions.FunctionEntry.{FunctionEntry}
use Rattle.rules.specs.Limits.{byte_limit, type_limit, function_limit, parameter_limit}
use Rattle.rules.specs.Types.{number, list, type_of, ElementsLower}
use Rattle.rules.specs.Programs.{Tables, Program, program, signature_of}
use Rattle.rules.specs.Branches.{Padded, Branch}

-- from o to e stand the records of these types
pub data TypeRecords (p : Program) : ℕ → List NodeType → ℕ → Type 0 where
  no_types : {o : ℕ} → TypeRecords p o [] o
  type_then : {o e : ℕ} {ts : List NodeType} (t : NodeType) → p.fetched o ≡ Some (ListType t) → TypeRecords p (o + 4) ts e → TypeRecords p o (t ∷ ts) e

-- from o to e stand these functions, each a record and its body, which is one branch
pub data Functions (p : Program) : ℕ → List FunctionEntry → ℕ → Type 0 where
  no_functions : {o : ℕ} → Functions p o [] o
  function_then : {o m e : ℕ} {fs : List FunctionEntry} (g : Signature) → p.fetched o ≡ Some (Function g) → Branch p 0 (o + 11) m → Functions p m fs e →
      Functions p o (record { signature = g; body = o + 11 } ∷ fs) e

-- a function record of a sheet with these types
pub record Signed (ts : List NodeType) (g : Signature) : Type 0 where
  pub few : g.count ≤ parameter_limit
  pub params : Padded (length ts + 1) g.count g.params
  pub result : g.result ≤ length ts

-- The bytes have the form, and these are their tables.
pub record Form (bytes : List ℕ) (t : Tables) : Type 0 where
  pub short : length bytes ≤ byte_limit
  pub behind_types : ℕ
  pub types : TypeRecords (program bytes t) 0 t.types behind_types
  pub functions : Functions (program bytes t) behind_types t.functions (length bytes)
  pub few_types : length t.types ≤ type_limit
  pub lower : ElementsLower t.types
  pub some_function : 0 < length t.functions
  pub few_functions : length t.functions ≤ function_limit
  pub signed : (f : ℕ) → f < length t.functions → Signed t.types (signature_of t.functions f)
  -- function 0 answers a list of Number
  pub amount : ℕ
  pub result : type_of t.types (signature_of t.functions 0).result ≡ list number amount
