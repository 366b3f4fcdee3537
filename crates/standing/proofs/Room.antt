-- Where a step of a funded run makes a node, a cell is free: the law of amounts, seen through the held cells.
use Rattle.std.proofs.Common.{◌≡◌, ℕ, ◌-◌, ◌≤◌, ◌∷◌, refl, ap, arith}
use Rattle.records.specs.declared.kinds.Step.{Step as Action}
use Rattle.rules.specs.Types.{Ty}
use Rattle.rules.specs.Programs.{Program}
use Rattle.plain.specs.Slots.{Slots}
use Rattle.plain.specs.Charges.{charge}
use Rattle.plain.specs.Reading as plain
use Rattle.plain.specs.States.{program_of}
use Rattle.plain.specs.Funded.{IsCall, is_call, result_type, result_remainder}
use Rattle.plain.proofs.Outcomes.{Good, good_on, good_end, good_refused}
use Rattle.plain.proofs.Steps.{paid_goes}
use Rattle.plain.proofs.Callable.{all_callable}
use Rattle.standing.specs.Law.{ACellIsFreeWhereANodeIsMade}
use Rattle.standing.proofs.Counting.{held_are_the_nodes_of_a_run}

call_charges_nothing : {a : Action} → IsCall a → charge a ≡ 0
call_charges_nothing is_call = refl

purse_pays : {p : Program} {A : Ty} {r spare purse : ℕ} {a : Action} {S : Slots} {depth held : ℕ} {o : plain.Outcome} →
    Good p A r spare purse a S depth held o → charge a ≤ purse
purse_pays (good_on deep pays next same) = omega arith
purse_pays (good_end deep h pays enough same) = omega arith
purse_pays (good_refused deep) = omega (arith, call_charges_nothing deep.call)

pub a_cell_is_free_where_a_node_is_made : ACellIsFreeWhereANodeIsMade
a_cell_is_free_where_a_node_is_made s spare capacity m words f fs a lawful funded numbered stands at =
    let x = paid_goes (program_of s) (result_type s) (result_remainder s) spare (capacity - plain.frames_nodes (f ∷ fs)) (all_callable lawful) funded.pays in
    let there = x.stands in
    let same : x.action ≡ a = cc in
    let pays : charge x.action ≤ capacity - plain.frames_nodes (f ∷ fs) = purse_pays x.well in
    omega (arith, ap charge same, held_are_the_nodes_of_a_run s.tables.types m words (f ∷ fs) numbered stands)
