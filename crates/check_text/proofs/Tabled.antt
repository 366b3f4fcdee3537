-- The tables of a sheet as lists.
use Rattle.std.proofs.Common.{◌≡◌, ℕ, ◌+◌, ◌<◌, ◌≤◌, List, length, sym, ap, zero-add, ◌∙◌, arith}
use Rattle.std.specs.List.{slice_get}
use Rattle.std.proofs.lemmas.Bool.Decides.{nat_tests}
use Rattle.std.proofs.lemmas.Grind.{common_steps}
use Rattle.std.proofs.lemmas.Option.{gets}
use Rattle.records.specs.declared.kinds.NodeType.{NodeType}
use Rattle.records.specs.declared.kinds.Signature.{Signature}
use Rattle.rules.specs.declared.functions.FunctionEntry.{FunctionEntry}
use Rattle.sheet.specs.Sheets.{list_type_at, function_at}
use Rattle.check_text.specs.Reports.{type_line, type_lines, function_line, function_lines, argument_line, argument_lines, parameter_at}
use Rattle.check_text.specs.Said.{said_of}
use Rattle.check_text.proofs.Said.{said_of_list}

type_numbered : (ts : List NodeType) (k : ℕ) → list_type_at ts (1 + k) ≡ slice_get ts k
type_numbered ts k = grind (arith, common_steps, gets, nat_tests)

pub types_said : (ts : List NodeType) → length ts ≤ 32 → said_of type_line 1 ts ≡ type_lines ts
types_said ts few = sym (said_of_list (list_type_at ts) type_line 32 1 ts few (λ k _. type_numbered ts k))

function_numbered : (fs : List FunctionEntry) (k : ℕ) → function_at fs (0 + k) ≡ slice_get fs k
function_numbered fs k = grind (arith, common_steps, gets, nat_tests)

pub functions_said : (fs : List FunctionEntry) → length fs ≤ 32 → said_of function_line 0 fs ≡ function_lines fs
functions_said fs few = sym (said_of_list (function_at fs) function_line 32 0 fs few (λ k _. function_numbered fs k))

pub arguments_said : (ts : List NodeType) (g : Signature) (xs : List ℕ) → length xs ≤ 4 → ((k : ℕ) → k < 4 → slice_get xs k ≡ parameter_at g k) →
    said_of (argument_line ts) 0 xs ≡ argument_lines ts g
arguments_said ts g xs few each = sym (said_of_list (parameter_at g) (argument_line ts) 4 0 xs few (λ k less. ap (parameter_at g) (zero-add k) ∙ sym (each k less)))
