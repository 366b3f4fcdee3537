use Rattle.std.proofs.Common.{◌∙◌}
use Rattle.label_text.proofs.Lines.{line_of_found}
use Rattle.label_text.proofs.Texts.{made_as}
use Rattle.label_text.proofs.listing.line_at.Goals as goal

pub returns-in-Some : goal.returns-in-Some
returns-in-Some c = made_as c.format.result _ _ c.format.ensures.ok (line_of_found c.args.place c.args.bytes.now _ c.in-Some.ensures)

pub returns-in-None : goal.returns-in-None
returns-in-None c = c.new.ensures.bytes ∙ line_of_found c.args.place c.args.bytes.now _ c.in-None.ensures
