use Rattle.plain.proofs.Evaluation.{a_function_has_one_value}
use Rattle.plain.proofs.functional.a_function_has_one_value.Goals as goal

pub returns : goal.returns
returns c = a_function_has_one_value
