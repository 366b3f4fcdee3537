-- What is said of the arguments so far is written.
use Rattle.std.proofs.Common.{take}
use Rattle.std.specs.Fmt.{HasWritten, IsPlainFormatter}
use Rattle.sheet.specs.Sheets.{sheet_tables}
use Rattle.check_text.specs.Reports.{argument_line}
use Rattle.check_text.specs.Said.{said_of}
use Rattle.check_text.proofs.asking.ArgumentsDisplay.fmt.Given as goal

abbrev pub invariant-loop-i : goal.invariant-loop-i
invariant-loop-i g l =
    IsPlainFormatter l.initial.f → HasWritten g.W.Write.write_str_gives l.initial.f
    (said_of (argument_line (sheet_tables l.self.sheet.now).types) 0 (take l.i l.t-items)) l.f
