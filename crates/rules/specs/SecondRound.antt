-- The second round: types and function records are read into tables. Rests on the row of records and on tests.
use Rattle.std.specs.Prelude.{ℕ, ◌+◌, Bool, true, cond, List, [], ◌∷◌, ◌++◌, length, Ok, Err, Result, ◌==◌, nat_le, nat_lt}
use Rattle.records.specs.declared.faults.Cause.{Cause}
use Rattle.records.specs.declared.faults.Cause.TheVariants.{OutOfOrder, NoFunction, TooMany, ElementNotLower, BadSignature, BadResult}
use Rattle.records.specs.declared.faults.Fault.{Fault}
use Rattle.records.specs.declared.kinds.NodeType.{NodeType}
use Rattle.records.specs.declared.kinds.Signature.{Signature}
use Rattle.records.specs.declared.kinds.Record.TheVariants.{ListType, Function, Step}
use Rattle.records.specs.Rows.{Row, next, end, broken}
use Rattle.rules.specs.Limits.{type_limit, function_limit, parameter_limit}
use Rattle.rules.specs.Types.{type_record}
use Rattle.rules.specs.Programs.{Tables}
use Rattle.rules.specs.Tests.{need, both, padded, is_list_type}

-- an answer that refuses, with its place
abbrev pub fault : {A : Type 0} → Cause → ℕ → Result A Fault
fault cause place = Err (record { cause = cause; place = place })

-- what is wrong with a type record behind these tables
abbrev pub type_fault : Tables → NodeType → Result (Unit {0}) Cause
type_fault t x =
    need OutOfOrder (length t.functions == 0)
    (need TooMany (nat_lt (length t.types) type_limit)
    (need ElementNotLower (nat_le x.element (length t.types)) (Ok tt)))

-- whether a function record fits so many types
abbrev pub signature_right : ℕ → Signature → Bool
signature_right types g = both (nat_le g.count parameter_limit) (both (padded (types + 1) g.count g.params) (nat_le g.result types))

-- whether t numbers a list of Number
abbrev pub numbers_listed : List NodeType → ℕ → Bool
numbers_listed ts t = both (is_list_type ts t) ((type_record ts t).element == 0)

-- what is wrong with a function record behind these tables
abbrev pub function_fault : Tables → Signature → Result (Unit {0}) Cause
function_fault t g =
    need TooMany (nat_lt (length t.functions) function_limit)
    (need BadSignature (signature_right (length t.types) g)
    (need BadResult (cond (length t.functions == 0) (numbers_listed t.types g.result) true) (Ok tt)))

-- what is wrong with a step behind these tables
abbrev pub step_fault : Tables → Result (Unit {0}) Cause
step_fault t = need OutOfOrder (nat_lt 0 (length t.functions)) (Ok tt)

-- the tables with one entry more
abbrev pub with_type : Tables → NodeType → Tables
with_type t x = record { types = t.types ++ (x ∷ []); functions = t.functions }

-- and with one function more, whose body begins here
abbrev pub with_function : Tables → Signature → ℕ → Tables
with_function t g body = record { types = t.types; functions = t.functions ++ (record { signature = g; body = body } ∷ []) }

-- the tables before the first record
abbrev pub no_tables : Tables
no_tables = record { types = []; functions = [] }

-- what follows, unless there is a fault here
abbrev pub go_on : Result (Unit {0}) Cause → ℕ → Result Tables Fault → Result Tables Fault
go_on (Err cause) place rest = fault cause place
go_on (Ok u) place rest = rest

-- the tables that a row of records adds to these, or the first fault
abbrev pub gathered : Row → Tables → Result Tables Fault
gathered (end at) t = cond (length t.functions == 0) (fault NoFunction at) (Ok t)
gathered (broken f) t = Err f
gathered (next at (ListType x) rest) t = go_on (type_fault t x) at (gathered rest (with_type t x))
gathered (next at (Function g) rest) t = go_on (function_fault t g) at (gathered rest (with_function t g (at + 11)))
gathered (next at (Step s) rest) t = go_on (step_fault t) at (gathered rest t)
