-- What is known of every sheet that has passed the check: it is lawful, each function's body is a branch, and each derives.
use Rattle.std.proofs.Common.{ℕ, ◌<◌, length, get_or}
use Rattle.rules.specs.Programs.{program, no_function}
use Rattle.rules.specs.Branches.{Branch}
use Rattle.rules.specs.Rules.{FunctionDerives}
use Rattle.rules.specs.Lawful.{Lawful}
use Rattle.rules.proofs.Decided.{lawful_again}
use Rattle.rules.proofs.Reached.{function_branch}
use Rattle.sheet.specs.declared.passed.Sheet.{Sheet}
use Rattle.sheet.specs.Sheets.{bytes_of, sheet_tables}

pub sheet_lawful : (s : Sheet) → Lawful (bytes_of s) (sheet_tables s)
sheet_lawful s = lawful_again (bytes_of s) (sheet_tables s) s.lawful

pub body_branch : (s : Sheet) (f : ℕ) → f < length (sheet_tables s).functions →
    (end : ℕ) × Branch (program (bytes_of s) (sheet_tables s)) 0 (get_or (sheet_tables s).functions f no_function).body end
body_branch s f h = function_branch (program (bytes_of s) (sheet_tables s)) (sheet_lawful s).form.functions f h

pub body_derives : (s : Sheet) (f : ℕ) → f < length (sheet_tables s).functions →
    FunctionDerives (program (bytes_of s) (sheet_tables s)) (get_or (sheet_tables s).functions f no_function)
body_derives s f h = (sheet_lawful s).derives f h
