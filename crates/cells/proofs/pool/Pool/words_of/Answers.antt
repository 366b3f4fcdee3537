use Rattle.std.proofs.Common.{arith}
use Rattle.cells.specs.Pool.{marks_of}
use Rattle.cells.specs.Places.{marks_long, held_marked}
use Rattle.cells.proofs.pool.Pool.words_of.Goals as goal

pub bounds-self-number : goal.bounds-self-number
bounds-self-number c =
    let pool = c.args.self.now in
    let marked = held_marked (marks_of pool) pool.rows c.args.number c.requires.held in
    omega (arith, marks_long pool, marked.1)
