use Rattle.plain.proofs.Refusals.{a_refused_call_alters_nothing}
use Rattle.plain.proofs.service.a_refused_call_alters_nothing.Goals as goal

pub returns : goal.returns
returns c = a_refused_call_alters_nothing
