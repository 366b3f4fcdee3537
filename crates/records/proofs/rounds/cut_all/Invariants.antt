-- The verdict from the reader's place on, with what is counted so far, is the verdict on the whole sheet.
use Rattle.std.proofs.Common.{◌≡◌, ◌-◌, ◌≤◌, length, drop}
use Rattle.records.specs.Rows.{row}
use Rattle.records.specs.FirstRound.{tallied, no_records, records_in}
use Rattle.records.proofs.rounds.cut_all.Given as goal

abbrev pub invariant-loop-next : goal.invariant-loop-next
invariant-loop-next l = record {
  lent : l.reader.bytes.now ≡ l.bytes;
  counted_so_far : records_in l.tally ≤ l.reader.at;
  verdict : tallied (row (drop l.reader.at l.bytes) l.reader.at) l.tally ≡ tallied (row l.bytes 0) no_records;
}

abbrev pub decreases-loop-next : goal.decreases-loop-next
decreases-loop-next l = length l.bytes - l.reader.at
