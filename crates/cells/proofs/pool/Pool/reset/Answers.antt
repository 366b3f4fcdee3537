use Rattle.std.proofs.Common.{sym}
use Rattle.cells.specs.Places.{unmarked_empty, unmarked_count}
use Rattle.cells.proofs.pool.Pool.reset.Goals as goal

pub invariant_of-self-clause-counted : goal.invariant_of-self-clause-counted
invariant_of-self-clause-counted c = sym (unmarked_count _ _ c.clear.ensures)

pub returns-clause-none_held : goal.returns-clause-none_held
returns-clause-none_held c = unmarked_empty _ _ c.clear.ensures
