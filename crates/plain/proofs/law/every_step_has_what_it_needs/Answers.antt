use Rattle.plain.proofs.Ready.{every_step_has_what_it_needs}
use Rattle.plain.proofs.law.every_step_has_what_it_needs.Goals as goal

pub returns : goal.returns
returns c = every_step_has_what_it_needs
