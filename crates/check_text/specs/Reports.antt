-- What the check says of a sheet, as text. Assumes nothing.
use Rattle.std.specs.Prelude.{◌≡◌, ℕ, zero, suc, ◌+◌, cond, List, [], ◌++◌, is_ok, Some, None, Ok, Err, string_bytes, codes, decimal, Option, Result, nat_lt, slice_index}
use Rattle.records.specs.declared.faults.Fault.{Fault}
use Rattle.records.specs.declared.kinds.NodeType.{NodeType}
use Rattle.records.specs.declared.kinds.Signature.{Signature}
use Rattle.records.specs.declared.kinds.Record.{Record}
use Rattle.records.specs.declared.kinds.Record.TheVariants.{ListType, Function}
use Rattle.rules.specs.declared.functions.FunctionEntry.{FunctionEntry}
use Rattle.sheet.specs.Sheets.{list_type_at, function_at}
use Rattle.rules.specs.Programs.{Tables}
use Rattle.rules.specs.Verdict.{verdict}
use Rattle.label_text.specs.Words.{words}
use Rattle.label_text.specs.Listing.{refusal_line, line_in}
use Rattle.label_text.specs.declared.report.Report.{Report}

-- a text about what is there, and none otherwise
abbrev pub about : {X : Type 0} → Option X → (X → List ℕ) → List ℕ
about None say = []
about (Some x) say = say x

-- what is to say of what stands here, then of what stands next, and so on up to where nothing stands, at most so often
unfoldable pub said_along : {S X : Type 0} → (S → Option X) → (S → X → List ℕ) → (S → X → S) → ℕ → S → List ℕ
said_along entry say next zero s = []
said_along entry say next (suc most) s = about (entry s) (λ x. say s x ++ said_along entry say next most (next s x))

-- the entries of a table from a number on
abbrev pub lines_from : {X : Type 0} → (ℕ → Option X) → (ℕ → X → List ℕ) → ℕ → ℕ → List ℕ
lines_from entry say most i = said_along entry say (λ j _. j + 1) most i

-- a record in words on a line of its own
abbrev pub numbered_line : ℕ → Record → List ℕ
numbered_line n r = words n r ++ codes "\n"

abbrev pub type_line : ℕ → NodeType → List ℕ
type_line t node = words t (ListType node) ++ codes "\n"

-- the types, numbered from 1
abbrev pub type_lines : List NodeType → List ℕ
type_lines ts = lines_from (list_type_at ts) type_line 32 1

abbrev pub function_line : ℕ → FunctionEntry → List ℕ
function_line f entry = words f (Function entry.signature) ++ codes "\n"

-- the functions, numbered from 0
abbrev pub function_lines : List FunctionEntry → List ℕ
function_lines fs = lines_from (function_at fs) function_line 32 0

abbrev pub amount_text : ℕ → NodeType → List ℕ
amount_text t node = codes " " ++ decimal node.amount

-- the amounts of a list type and of its element types, at most so many, from the outermost list in
abbrev pub amounts_within : ℕ → List NodeType → ℕ → List ℕ
amounts_within most ts t = said_along (list_type_at ts) amount_text (λ _ node. node.element) most t

abbrev pub amounts : List NodeType → ℕ → List ℕ
amounts ts t = amounts_within 32 ts t

-- what an argument of this type asks
abbrev pub argument_line : List NodeType → ℕ → ℕ → List ℕ
argument_line ts i t =
    codes "argument " ++ (decimal i ++ (codes " of type " ++ (decimal t ++ (codes " asks for each node, from the outermost list in:" ++ (amounts ts t ++ codes "\n")))))

abbrev pub parameter_at : Signature → ℕ → Option ℕ
parameter_at g i = cond (nat_lt i g.count) (Some (slice_index g.params i)) None

-- the arguments of a function, numbered from 0
abbrev pub argument_lines : List NodeType → Signature → List ℕ
argument_lines ts g = lines_from (parameter_at g) (argument_line ts) 4 0

-- what function 0 asks
abbrev pub asking : List NodeType → Option FunctionEntry → List ℕ
asking ts entry = about entry (λ e. argument_lines ts e.signature)

-- the tables of an accepted sheet
abbrev pub accepted_text : Tables → List ℕ
accepted_text t = codes "accepted\n" ++ (type_lines t.types ++ (function_lines t.functions ++ asking t.types (function_at t.functions 0)))

-- a refusal, and the record at its place
abbrev pub refused_text : List ℕ → Fault → List ℕ
refused_text bytes f = refusal_line f ++ line_in bytes f.place

-- the whole report
abbrev pub report_text : List ℕ → Result Tables Fault → List ℕ
report_text bytes (Ok t) = accepted_text t
report_text bytes (Err f) = refused_text bytes f

pub record Reported (bytes : List ℕ) (r : Report) : Type 0 where
  pub text : string_bytes r.text ≡ report_text bytes (verdict bytes)
  pub accepted : r.accepted ≡ is_ok (verdict bytes)
