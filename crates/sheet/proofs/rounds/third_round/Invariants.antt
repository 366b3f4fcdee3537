-- Between bodies the verdict from the reader's place on is the verdict on the sheet; in a body it is that with the account and
-- the branches that wait.
use Rattle.std.proofs.Common.{◌≡◌, ◌-◌, length, drop, reverse}
use Rattle.records.specs.Rows.{row}
use Rattle.rules.specs.ThirdRound.{between, bodies_pass}
use Rattle.rules.proofs.Turns.{Carried}
use Rattle.sheet.specs.Held.{tables_of}
use Rattle.sheet.proofs.rounds.third_round.Given as goal

abbrev pub invariant-bodies : goal.invariant-bodies
invariant-bodies l =
    (l.reader.bytes.now ≡ l.bytes)
    × (bodies_pass (tables_of l.tables) (row (drop l.reader.at l.bytes) l.reader.at) between ≡ bodies_pass (tables_of l.tables) (row l.bytes 0) between)

abbrev pub decreases-bodies : goal.decreases-bodies
decreases-bodies l = length l.bytes - l.reader.at

abbrev pub invariant-branches : goal.invariant-branches
invariant-branches l =
    Carried (tables_of l.tables) l.bytes l.reader.bytes.now l.initial.reader.at l.reader.at l.function l.account (reverse l.stack.items) (length l.stack.items)

abbrev pub decreases-branches : goal.decreases-branches
decreases-branches l = length l.bytes - l.reader.at

abbrev pub invariant-records : goal.invariant-records
invariant-records l =
    Carried (tables_of l.tables) l.bytes l.reader.bytes.now l.initial.reader.at l.reader.at l.function l.account (reverse l.stack.items) (length l.stack.items)

abbrev pub decreases-records : goal.decreases-records
decreases-records l = length l.bytes - l.reader.at
