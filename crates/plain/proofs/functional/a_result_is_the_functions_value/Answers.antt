use Rattle.plain.proofs.Results.{a_result_is_the_functions_value}
use Rattle.plain.proofs.functional.a_result_is_the_functions_value.Goals as goal

pub returns : goal.returns
returns c = a_result_is_the_functions_value
