-- The listing of a sheet as text. Assumes nothing.
use Rattle.std.specs.Prelude.{◌≡◌, ℕ, ◌+◌, cond, List, [], ◌++◌, length, is_ok, Ok, Err, string_bytes, codes, decimal, Result, ◌==◌, nat_lt}
use Rattle.records.specs.declared.faults.Fault.{Fault}
use Rattle.records.specs.declared.kinds.Record.{Record}
use Rattle.records.specs.declared.kinds.Record.TheVariants.{ListType, Function, Step}
use Rattle.records.specs.declared.rounds.Tally.{Tally}
use Rattle.records.specs.Numbers.{number_of}
use Rattle.records.specs.Rows.{Row, next, end, broken, row}
use Rattle.records.specs.FirstRound.{first_round}
use Rattle.label_text.specs.declared.report.Report.{Report}
use Rattle.label_text.specs.declared.entries.Numbering.{Numbering}
use Rattle.label_text.specs.Words.{words, reason}

-- a record at its offset
abbrev pub record_line : ℕ → ℕ → Record → List ℕ
record_line at number r = decimal at ++ (codes ": " ++ (words number r ++ codes "\n"))

-- a refusal, with its number, its place and its cause
abbrev pub refusal_line : Fault → List ℕ
refusal_line f = codes "refused " ++ (decimal (number_of f.cause) ++ (codes " at " ++ (decimal f.place ++ (codes ": " ++ (reason f.cause ++ codes "\n")))))

abbrev pub count_line : ℕ → Tally → List ℕ
count_line bytes t =
    codes "bytes " ++ (decimal bytes ++ (codes ", types " ++ (decimal t.types ++ (codes ", functions " ++ (decimal t.functions ++ (codes ", steps " ++ (decimal t.steps ++ codes "\n")))))))

-- the number that a record gets behind these types and functions: types count from 1, functions from 0
abbrev pub number_behind : Numbering → Record → ℕ
number_behind n (ListType _) = n.types + 1
number_behind n (Function _) = n.functions
number_behind n (Step _) = 0

abbrev pub numbered : Numbering → Record → Numbering
numbered n (ListType _) = record { types = n.types + 1; functions = n.functions }
numbered n (Function _) = record { types = n.types; functions = n.functions + 1 }
numbered n (Step _) = n

-- a line for each record, up to the end or to the first that cannot be cut
abbrev pub lines : Row → Numbering → List ℕ
lines (next at r rest) n = record_line at (number_behind n r) r ++ lines rest (numbered n r)
lines (end at) n = []
lines (broken f) n = []

-- a sheet that is too long is not cut
abbrev pub record_lines : List ℕ → List ℕ
record_lines bytes = cond (nat_lt 4096 (length bytes)) [] (lines (row bytes 0) (record { types = 0; functions = 0 }))

-- the line of the record at this place, if one is cut there
abbrev pub line_at : Row → Numbering → ℕ → List ℕ
line_at (next at r rest) n place = cond (at == place) (record_line at (number_behind n r) r) (line_at rest (numbered n r) place)
line_at (end at) n place = []
line_at (broken f) n place = []

abbrev pub line_in : List ℕ → ℕ → List ℕ
line_in bytes place = cond (nat_lt 4096 (length bytes)) [] (line_at (row bytes 0) (record { types = 0; functions = 0 }) place)

-- what the first round says of the whole sheet
abbrev pub last_line : ℕ → Result Tally Fault → List ℕ
last_line bytes (Ok t) = count_line bytes t
last_line bytes (Err f) = refusal_line f

-- the whole listing
pub record Listed (bytes : List ℕ) (l : Report) : Type 0 where
  pub text : string_bytes l.text ≡ record_lines bytes ++ last_line (length bytes) (first_round bytes)
  pub accepted : l.accepted ≡ is_ok (first_round bytes)
