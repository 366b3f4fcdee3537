use Rattle.plain.proofs.Finding.{a_value_is_found_by_a_run}
use Rattle.plain.proofs.functional.a_value_is_found_by_a_run.Goals as goal

pub returns : goal.returns
returns c = a_value_is_found_by_a_run
