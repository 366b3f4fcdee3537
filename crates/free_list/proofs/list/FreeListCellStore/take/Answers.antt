use Rattle.std.proofs.Common.{refl, arith}
use Rattle.free_list.proofs.Heads.{all_taken, head_inside, taken_orders, taken_placed}
use Rattle.free_list.proofs.list.FreeListCellStore.take.Goals as goal

pub returns-then-number-eq-END-clause-took : goal.returns-then-number-eq-END-clause-took
returns-then-number-eq-END-clause-took c = record {
  no_room = omega (arith, all_taken c.args.self.now c.if-number-eq-END.true, c.args.self.now.order.counted);
  its_code = refl;
  least_code = omega arith;
  greatest_code = omega arith;
  same_cells = refl;
  same_capacity = refl;
}

pub bounds-self-place : goal.bounds-self-place
bounds-self-place c = omega (arith, head_inside c.args.self.now c.if-number-eq-END.false)

pub bounds-self-place-2 : goal.bounds-self-place-2
bounds-self-place-2 c = omega (arith, head_inside c.args.self.now c.if-number-eq-END.false)

pub invariant_of-self : goal.invariant_of-self
invariant_of-self c = record { order = taken_orders c.args.self.now c.if-number-eq-END.false c.args.words }

pub returns-clause-took : goal.returns-clause-took
returns-clause-took c = taken_placed c.args.self.now c.if-number-eq-END.false c.args.words
