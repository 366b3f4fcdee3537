-- The verdict of the check on any bytes: the tables of an accepted sheet, or the first fault. Rests on the three rounds.
use Rattle.std.specs.Prelude.{ℕ, List, Ok, Err, Result}
use Rattle.records.specs.declared.faults.Fault.{Fault}
use Rattle.records.specs.declared.rounds.Tally.{Tally}
use Rattle.records.specs.Rows.{Row, row}
use Rattle.records.specs.FirstRound.{first_round}
use Rattle.rules.specs.Programs.{Tables}
use Rattle.rules.specs.SecondRound.{no_tables, gathered}
use Rattle.rules.specs.ThirdRound.{Answer, between, bodies_pass}

-- each round is for a sheet that the rounds before have passed
abbrev pub after_third : Answer → Tables → Result Tables Fault
after_third (Ok u) t = Ok t
after_third (Err f) t = Err f

abbrev pub after_second : Result Tables Fault → Row → Result Tables Fault
after_second (Ok t) r = after_third (bodies_pass t r between) t
after_second (Err f) r = Err f

abbrev pub after_first : Result Tally Fault → Row → Result Tables Fault
after_first (Ok u) r = after_second (gathered r no_tables) r
after_first (Err f) r = Err f

-- the tables of the sheet that these bytes are, or the first fault: its cause and its place
abbrev pub verdict : List ℕ → Result Tables Fault
verdict bytes = after_first (first_round bytes) (row bytes 0)
