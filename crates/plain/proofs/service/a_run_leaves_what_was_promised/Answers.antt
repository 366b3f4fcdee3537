use Rattle.plain.proofs.Promise.{a_run_leaves_what_was_promised}
use Rattle.plain.proofs.service.a_run_leaves_what_was_promised.Goals as goal

pub returns : goal.returns
returns c = a_run_leaves_what_was_promised
