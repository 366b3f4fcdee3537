use Rattle.std.proofs.Common.{arith}
use Rattle.cells.specs.Bounds.{pool_within}
use Rattle.cells.proofs.pool.PoolCellStore.free.Goals as goal

pub overflow_sub-result : goal.overflow_sub-result
overflow_sub-result c = omega (arith, c.held.ensures, pool_within c.args.self.now)
