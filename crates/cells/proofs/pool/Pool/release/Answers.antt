use Rattle.std.proofs.Common.{arith}
use Rattle.cells.proofs.Turns.{releases, releases_one_less}
use Rattle.cells.proofs.pool.Pool.release.Goals as goal

pub overflow_sub-self : goal.overflow_sub-self
overflow_sub-self c = omega (arith, releases_one_less c.args.self.now c.args.number _ c.turn.ensures c.requires.held)

pub invariant_of-self-clause-counted : goal.invariant_of-self-clause-counted
invariant_of-self-clause-counted c = omega (arith, releases_one_less c.args.self.now c.args.number _ c.turn.ensures c.requires.held)

pub returns-clause-unheld : goal.returns-clause-unheld
returns-clause-unheld c = releases c.args.self.now c.args.number _ c.turn.ensures c.requires.held

pub returns-clause-one_less : goal.returns-clause-one_less
returns-clause-one_less c = releases_one_less c.args.self.now c.args.number _ c.turn.ensures c.requires.held
