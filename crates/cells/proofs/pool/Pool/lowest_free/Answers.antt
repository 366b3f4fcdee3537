use Rattle.std.proofs.Common.{◌≡◌, ℕ, ◌+◌, ◌-◌, ◌<◌, refl, arith}
use Rattle.cells.specs.Cells.{count}
use Rattle.cells.specs.Rows.{pool_capacity}
use Rattle.cells.specs.Pool.{marks_of, pool_cells}
use Rattle.cells.specs.Places.{marks_long, marked_held, unmarked_unheld, count_all_set, count_one_clear}
use Rattle.cells.proofs.pool.Pool.lowest_free.Goals as goal

pub overflow_cast-result : goal.overflow_cast-result
overflow_cast-result c = omega (arith, marks_long c.args.self.now, c.in_ok-place.ensures.inside)

pub overflow_add-result : goal.overflow_add-result
overflow_add-result c = omega (arith, marks_long c.args.self.now, c.in_ok-place.ensures.inside)

pub returns-in_err-place : goal.returns-in_err-place
returns-in_err-place c =
    let all : count (pool_cells c.args.self.now) ≡ pool_capacity = count_all_set c.args.self.now c.in_err-place.ensures.everywhere in
    rw c.from_residual.ensures (omega arith)

pub returns : goal.returns
returns c =
    let pool = c.args.self.now in
    let place : ℕ = c.in_ok-place.place in
    let found = c.in_ok-place.ensures in
    let room : count (pool_cells pool) < pool_capacity = count_one_clear pool place found.inside found.clear in (
      record {
        from_one = omega arith;
        in_pool = omega (arith, marks_long pool, found.inside);
        unheld = unmarked_unheld (marks_of pool) pool.rows (place + 1) place refl found.clear;
        held_below = λ k low high. marked_held (marks_of pool) pool.rows k (k - 1) (omega arith) (found.set_before (k - 1) (omega arith));
      },
      omega arith,
    )
