-- From the reader's place on, the records add to the tables what all records add to none.
use Rattle.std.proofs.Common.{◌≡◌, ◌-◌, length, drop}
use Rattle.records.specs.Rows.{row}
use Rattle.rules.specs.SecondRound.{no_tables, gathered}
use Rattle.sheet.specs.Held.{tables_of}
use Rattle.sheet.proofs.gathering.second_round.Given as goal

abbrev pub invariant-records : goal.invariant-records
invariant-records l =
    (l.reader.bytes.now ≡ l.bytes)
    × (gathered (row (drop l.reader.at l.bytes) l.reader.at) (tables_of l.tables) ≡ gathered (row l.bytes 0) no_tables)

abbrev pub decreases-records : goal.decreases-records
decreases-records l = length l.bytes - l.reader.at
