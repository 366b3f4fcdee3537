use Rattle.free_list.proofs.Heads.{some_taken, given_orders, given_ended}
use Rattle.free_list.proofs.list.FreeListCellStore.give.Goals as goal

pub overflow_sub-self : goal.overflow_sub-self
overflow_sub-self c = some_taken c.args.self.now c.args.number c.in_ok-place.place c.in_ok-place.ensures

pub invariant_of-self : goal.invariant_of-self
invariant_of-self c = record { order = rw c.freed.ensures (given_orders c.args.self.now c.args.number c.in_ok-place.place c.in_ok-place.ensures) }

pub returns-clause-gave : goal.returns-clause-gave
returns-clause-gave c = rw c.freed.ensures (given_ended c.args.self.now c.args.number c.in_ok-place.place c.in_ok-place.ensures)
