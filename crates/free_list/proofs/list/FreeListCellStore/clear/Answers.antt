use Rattle.std.proofs.Common.{rules}
use Rattle.free_list.proofs.Rising.{risen_in_order}
use Rattle.free_list.proofs.list.FreeListCellStore.clear.Goals as goal

pub invariant_of-self : goal.invariant_of-self
invariant_of-self c = search (rules, risen_in_order)
