use Rattle.std.proofs.Common.{ap, ◌∙◌, rules}
use Rattle.sheet.specs.Sheets.{sheet_tables}
use Rattle.check_text.specs.Reports.{type_line}
use Rattle.check_text.specs.Said.{said_of}
use Rattle.check_text.proofs.Tabled.{types_said}
use Rattle.check_text.proofs.tables.type_lines.Goals as goal

pub returns : goal.returns
returns c = ap (said_of type_line 1) c.types.ensures ∙ types_said (sheet_tables c.args.sheet.now).types (search rules)
