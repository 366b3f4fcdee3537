use Rattle.cells.proofs.Reasoning.{laws}
use Rattle.cells.proofs.laws.a_put_counts_one_more_and_a_removal_one_less.Goals as goal

pub returns : goal.returns
returns c = laws
