use Rattle.plain.proofs.Unwinding.{a_run_ends_with_the_functions_value}
use Rattle.plain.proofs.functional.a_run_ends_with_the_functions_value.Goals as goal

pub returns : goal.returns
returns c = a_run_ends_with_the_functions_value
