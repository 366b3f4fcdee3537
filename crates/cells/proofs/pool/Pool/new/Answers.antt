use Rattle.std.proofs.Common.{rules}
use Rattle.cells.specs.Places.{unmarked_empty, unmarked_count}
use Rattle.cells.proofs.pool.Pool.new.Goals as goal

pub invariant_of-result-clause-counted : goal.invariant_of-result-clause-counted
invariant_of-result-clause-counted c = search (rules, unmarked_count)

pub returns : goal.returns
returns c = search (rules, unmarked_empty)
