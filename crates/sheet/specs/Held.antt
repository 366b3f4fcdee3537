-- What the code's tables hold. Rests on the tables of a program.
use Rattle.std.specs.Prelude.{List, Ok, Err, Result}
use Rattle.records.specs.declared.faults.Fault.{Fault}
use Rattle.records.specs.declared.kinds.NodeType.{NodeType}
use Rattle.rules.specs.declared.functions.FunctionEntry.{FunctionEntry}
use Rattle.rules.specs.Programs.{Tables}
use Rattle.sheet.specs.declared.tables.Tables.{Tables as Arrays}

-- the list types
abbrev pub types_of : Arrays → List NodeType
types_of t = t.types.items

-- the functions
abbrev pub functions_of : Arrays → List FunctionEntry
functions_of t = t.functions.items

-- both, as the tables of a sheet
abbrev pub tables_of : Arrays → Tables
tables_of t = record { types = types_of t; functions = functions_of t }

-- an answer by the tables that it holds
abbrev pub held : Result Arrays Fault → Result Tables Fault
held (Ok t) = Ok (tables_of t)
held (Err f) = Err f
