use Rattle.plain.proofs.Funding.{funding_pays, a_funded_run_never_lacks_a_cell}
use Rattle.plain.proofs.Runs.{steps_keep_what_is_paid}
use Rattle.plain.proofs.law.a_funded_run_never_lacks_a_cell.Goals as goal

pub returns : goal.returns
returns c = record { funding = funding_pays; steps = steps_keep_what_is_paid; runs = a_funded_run_never_lacks_a_cell }
