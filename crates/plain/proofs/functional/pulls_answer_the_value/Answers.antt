use Rattle.plain.proofs.Results.{pulls_answer_the_value}
use Rattle.plain.proofs.functional.pulls_answer_the_value.Goals as goal

pub returns : goal.returns
returns c = pulls_answer_the_value
