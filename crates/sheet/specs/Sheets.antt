-- What a sheet that has passed the check holds: its bytes and its tables.
use Rattle.std.specs.Prelude.{ℕ, cond, List, length, Some, None, Option, nat_lt, slice_index_or}
use Rattle.records.specs.declared.kinds.NodeType.{NodeType}
use Rattle.rules.specs.declared.functions.FunctionEntry.{FunctionEntry}
use Rattle.rules.specs.Types.{type_record}
use Rattle.rules.specs.Programs.{Tables, no_function}
use Rattle.rules.specs.Tests.{is_list_type}
use Rattle.sheet.specs.declared.passed.Sheet.{Sheet}
use Rattle.sheet.specs.Held.{tables_of}

-- the bytes that were checked
abbrev pub bytes_of : Sheet → List ℕ
bytes_of s = s.bytes.items

-- their tables
abbrev pub sheet_tables : Sheet → Tables
sheet_tables s = tables_of s.tables

-- the list type with number t, if there is one
abbrev pub list_type_at : List NodeType → ℕ → Option NodeType
list_type_at ts t = cond (is_list_type ts t) (Some (type_record ts t)) None

-- the function with number f, if there is one
abbrev pub function_at : List FunctionEntry → ℕ → Option FunctionEntry
function_at fs f = cond (nat_lt f (length fs)) (Some (slice_index_or fs f no_function)) None
