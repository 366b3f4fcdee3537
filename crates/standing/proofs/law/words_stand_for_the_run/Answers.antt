use Rattle.standing.proofs.Counting.{held_are_the_nodes_of_a_run, held_are_the_nodes_of_a_result}
use Rattle.standing.proofs.Room.{a_cell_is_free_where_a_node_is_made}
use Rattle.standing.proofs.Steps.{steps_keep_standing}
use Rattle.standing.proofs.law.words_stand_for_the_run.Goals as goal

pub returns : goal.returns
returns c =
    record { steps = steps_keep_standing; run = held_are_the_nodes_of_a_run; result = held_are_the_nodes_of_a_result; room = a_cell_is_free_where_a_node_is_made }
