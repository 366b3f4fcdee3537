use Rattle.standing.proofs.Needed.{a_step_finds_what_it_needs}
use Rattle.standing.proofs.law.a_step_finds_what_it_needs.Goals as goal

pub returns : goal.returns
returns c = a_step_finds_what_it_needs
