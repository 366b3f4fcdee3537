-- The verdict of the first round. Assumes nothing.
use Rattle.std.specs.Prelude.{ℕ, ◌+◌, cond, List, length, Ok, Err, Result, nat_lt}
use Rattle.records.specs.declared.faults.Cause.TheVariants.{TooLong}
use Rattle.records.specs.declared.faults.Fault.{Fault}
use Rattle.records.specs.declared.kinds.Record.{Record}
use Rattle.records.specs.declared.kinds.Record.TheVariants.{ListType, Function, Step}
use Rattle.records.specs.declared.rounds.Tally.{Tally}
use Rattle.records.specs.Rows.{Row, next, end, broken, row}

-- all its records
abbrev pub records_in : Tally → ℕ
records_in t = t.types + t.functions + t.steps

-- one record more
abbrev pub counted : Tally → Record → Tally
counted t (ListType _) = record { types = t.types + 1; functions = t.functions; steps = t.steps }
counted t (Function _) = record { types = t.types; functions = t.functions + 1; steps = t.steps }
counted t (Step _) = record { types = t.types; functions = t.functions; steps = t.steps + 1 }

abbrev pub no_records : Tally
no_records = record { types = 0; functions = 0; steps = 0 }

-- the records of a row, counted, or its fault
abbrev pub tallied : Row → Tally → Result Tally Fault
tallied (next at r rest) t = tallied rest (counted t r)
tallied (end at) t = Ok t
tallied (broken f) t = Err f

-- a sheet of more than 4,096 bytes is refused at place 0, and any other by its first record that cannot be cut
abbrev pub first_round : List ℕ → Result Tally Fault
first_round bytes = cond (nat_lt 4096 (length bytes)) (Err (record { cause = TooLong; place = 0 })) (tallied (row bytes 0) no_records)
