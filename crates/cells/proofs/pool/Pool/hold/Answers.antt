use Rattle.std.proofs.Common.{arith}
use Rattle.cells.specs.Bounds.{pool_within}
use Rattle.cells.proofs.Turns.{holds, holds_one_more}
use Rattle.cells.proofs.pool.Pool.hold.Goals as goal

pub overflow_add-self : goal.overflow_add-self
overflow_add-self c = omega (arith, pool_within c.args.self.now)

pub invariant_of-self-clause-counted : goal.invariant_of-self-clause-counted
invariant_of-self-clause-counted c =
    omega (arith, holds_one_more c.args.self.now c.args.number _ c.turn.ensures c.args.words c.requires.from_one c.requires.in_pool c.requires.unheld)

pub returns-clause-held : goal.returns-clause-held
returns-clause-held c = holds c.args.self.now c.args.number _ c.turn.ensures c.args.words c.requires.from_one c.requires.in_pool c.requires.unheld
