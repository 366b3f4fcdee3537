-- What the meaning of a free list owes the interface: no more cells are held than there are. Rests on the chain.
use Rattle.std.specs.Prelude.{ℕ, ◌≤◌, List}
use Rattle.std.proofs.Common.{arith}
use Rattle.cells.specs.Cells.{count}
use Rattle.free_list.specs.declared.lent.LentCell.{LentCell}
use Rattle.free_list.specs.Lent.{lent_capacity, lent_cells}
use Rattle.free_list.specs.Chain.{InOrder}

pub held_within : (lent : List LentCell) (first taken : ℕ) → InOrder lent first taken → count (lent_cells lent) ≤ lent_capacity lent
held_within lent first taken order = omega (arith, order.counted, order.others_held)
