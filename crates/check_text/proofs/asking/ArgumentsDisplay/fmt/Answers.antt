use Rattle.std.proofs.Common.{get_or, refl, rules, ◌∙◌}
use Rattle.std.proofs.Output.{has_written_append, has_written_of_eq}
use Rattle.sheet.specs.Sheets.{sheet_tables}
use Rattle.check_text.specs.Reports.{argument_line}
use Rattle.check_text.proofs.Said.{said_more, said_whole}
use Rattle.check_text.proofs.Tabled.{arguments_said}
use Rattle.check_text.proofs.asking.ArgumentsDisplay.fmt.Goals as goal

pub loop-i-preserved : goal.loop-i-preserved
loop-i-preserved g c = λ plain.
    has_written_of_eq _ _ _ _ _ (said_more (argument_line (sheet_tables c.args.self.now.sheet.now).types) 0 c.parameters-t-items.result.now c.loop-i.i 0 (get_or c.parameters-t-items.result.now c.loop-i.i 0) c.loop-i-test.true refl)
    (has_written_append _ _ _ _ _ _ (c.loop-i.invariant plain) (search rules))

pub returns-clause-writes : goal.returns-clause-writes
returns-clause-writes g c = λ plain _.
    has_written_of_eq _ _ _ _ _
    (said_whole (argument_line (sheet_tables c.args.self.now.sheet.now).types) 0 c.parameters-t-items.result.now c.loop-i.i c.loop-i-test.false
    ∙ arguments_said (sheet_tables c.args.self.now.sheet.now).types c.args.self.now.signature c.parameters-t-items.result.now c.parameters-t-items.ensures.few c.parameters-t-items.ensures.each)
    (c.loop-i.invariant plain)
