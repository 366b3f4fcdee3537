use Rattle.standing.proofs.Services.{services_answer_alike}
use Rattle.standing.proofs.law.services_answer_as_the_plain_service.Goals as goal

pub returns : goal.returns
returns c = services_answer_alike
