-- The amounts so far are written, and those of the type that is reached are the others.
use Rattle.std.proofs.Common.{◌≡◌, ℕ, ◌-◌, List, ◌++◌}
use Rattle.std.specs.Fmt.{HasWritten, IsPlainFormatter}
use Rattle.sheet.specs.Sheets.{sheet_tables}
use Rattle.check_text.specs.Reports.{amounts, amounts_within}
use Rattle.check_text.proofs.asking.AmountsDisplay.fmt.Given as goal

abbrev pub invariant-loop : goal.invariant-loop
invariant-loop g l =
    IsPlainFormatter l.initial.f → (done : List ℕ) × HasWritten g.W.Write.write_str_gives l.initial.f done l.f
    × (done ++ amounts_within (32 - l.counter) (sheet_tables l.self.sheet.now).types l.t ≡ amounts (sheet_tables l.self.sheet.now).types l.self.of)
