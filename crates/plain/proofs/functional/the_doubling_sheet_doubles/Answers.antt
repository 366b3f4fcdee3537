use Rattle.plain.proofs.Doubling.{the_doubling_sheet_doubles}
use Rattle.plain.proofs.functional.the_doubling_sheet_doubles.Goals as goal

pub returns : goal.returns
returns c = the_doubling_sheet_doubles
