use Rattle.plain.proofs.Bodies.{a_sheet_has_its_bodies}
use Rattle.plain.proofs.functional.a_sheet_has_its_bodies.Goals as goal

pub returns : goal.returns
returns c = a_sheet_has_its_bodies
