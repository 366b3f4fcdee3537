-- What is said of the entries so far is written.
use Rattle.std.proofs.Common.{take}
use Rattle.std.specs.Fmt.{HasWritten, IsPlainFormatter}
use Rattle.check_text.specs.Reports.{numbered_line}
use Rattle.check_text.specs.Said.{said_of}
use Rattle.check_text.proofs.tables.TableDisplay.fmt.Given as goal

abbrev pub invariant-loop-i : goal.invariant-loop-i
invariant-loop-i g l =
    IsPlainFormatter l.initial.f → HasWritten g.W.Write.write_str_gives l.initial.f
    (said_of (λ n e. numbered_line n (g.T.Entry.record_of e)) l.self.first (take l.i l.self.entries.now)) l.f
