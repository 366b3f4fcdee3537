use Rattle.std.proofs.Common.{ap, ◌∙◌, rules}
use Rattle.sheet.specs.Sheets.{sheet_tables}
use Rattle.check_text.specs.Reports.{function_line}
use Rattle.check_text.specs.Said.{said_of}
use Rattle.check_text.proofs.Tabled.{functions_said}
use Rattle.check_text.proofs.tables.function_lines.Goals as goal

pub returns : goal.returns
returns c = ap (said_of function_line 0) c.functions.ensures ∙ functions_said (sheet_tables c.args.sheet.now).functions (search rules)
