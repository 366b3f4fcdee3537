-- What stands at an offset of a sheet, and the tables of a sheet. Rests on the cut of a record.
use Rattle.std.specs.Prelude.{ℕ, List, [], drop, None, Ok, Err, Option, slice_index_or}
use Rattle.records.specs.declared.kinds.NodeType.{NodeType}
use Rattle.records.specs.declared.kinds.Signature.{Signature}
use Rattle.records.specs.declared.kinds.Record.{Record}
use Rattle.records.specs.Cutting.{Cutting, cut}
use Rattle.rules.specs.declared.functions.FunctionEntry.{FunctionEntry}

-- the record that a cut gave, if it gave one
abbrev pub record_in : Cutting → Option Record
record_in (Ok r) = r
record_in (Err f) = None

-- the record that begins at this offset, if a whole one of a known kind does
abbrev pub fetch : List ℕ → ℕ → Option Record
fetch bytes o = record_in (cut (drop o bytes) o)

-- the list types of a sheet, numbered from 1, and its functions, numbered from 0
pub record Tables : Type 0 where
  pub types : List NodeType
  pub functions : List FunctionEntry

-- what stands for a function that a sheet does not have; no sheet of the right form uses it
abbrev pub no_signature : Signature
no_signature = record { count = 0; params = []; result = 0; entry = 0; remainder = 0 }

abbrev pub no_function : FunctionEntry
no_function = record { signature = no_signature; body = 0 }

-- what a sheet says to the rules: its tables, and what stands at each offset
pub record Program : Type 0 where
  pub types : List NodeType
  pub functions : List FunctionEntry
  pub fetched : ℕ → Option Record

-- the program that bytes with these tables are
abbrev pub program : List ℕ → Tables → Program
program bytes t = record { types = t.types; functions = t.functions; fetched = fetch bytes }

-- what the record of function number f says
abbrev pub signature_of : List FunctionEntry → ℕ → Signature
signature_of fs f = (slice_index_or fs f no_function).signature
