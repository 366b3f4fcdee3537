use Rattle.std.proofs.Common.{rules}
use Rattle.free_list.proofs.Rising.{risen_in_order}
use Rattle.free_list.proofs.list.FreeList.new.Goals as goal

pub invariant_of-result : goal.invariant_of-result
invariant_of-result c = search (rules, risen_in_order)
