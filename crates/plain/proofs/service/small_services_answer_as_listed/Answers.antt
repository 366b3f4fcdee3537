use Rattle.plain.proofs.Examples.{examples_hold}
use Rattle.plain.proofs.service.small_services_answer_as_listed.Goals as goal

pub returns : goal.returns
returns c = examples_hold
