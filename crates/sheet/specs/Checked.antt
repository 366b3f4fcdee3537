-- What the check answers. Rests on the verdict, and on what a sheet has to be.
use Rattle.std.specs.Prelude.{◌≡◌, ℕ, List, Some, None, Ok, Err, Option, Result}
use Rattle.records.specs.declared.faults.Fault.{Fault}
use Rattle.rules.specs.Programs.{Tables}
use Rattle.rules.specs.Lawful.{Lawful}
use Rattle.sheet.specs.declared.passed.Sheet.{Sheet}
use Rattle.sheet.specs.Sheets.{bytes_of, sheet_tables}

-- an answer as a verdict: the tables of the sheet, or the fault
abbrev pub answered : Result Sheet Fault → Result Tables Fault
answered (Ok s) = Ok (sheet_tables s)
answered (Err f) = Err f

-- the tables of the sheet that was accepted, if one was
abbrev pub accepted : Result Sheet Fault → Option Tables
accepted (Ok s) = Some (sheet_tables s)
accepted (Err f) = None

-- The bytes are accepted, with tables t, exactly when they have the form of a sheet with these tables and the rules derive every
-- function at its stated amounts.
abbrev pub AcceptsExactly : List ℕ → Result Sheet Fault → Type 0
AcceptsExactly bytes answer = (t : Tables) → (accepted answer ≡ Some t → Lawful bytes t) × (Lawful bytes t → accepted answer ≡ Some t)

-- a sheet has the bytes that were checked
abbrev pub Copies : List ℕ → Result Sheet Fault → Type 0
Copies bytes (Ok s) = bytes_of s ≡ bytes
Copies bytes (Err f) = Unit {0}
