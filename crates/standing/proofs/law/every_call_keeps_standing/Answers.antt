use Rattle.standing.proofs.Calls.{calls_keep_standing, held_are_the_live_nodes}
use Rattle.standing.proofs.law.every_call_keeps_standing.Goals as goal

pub returns : goal.returns
returns c = record { calls = calls_keep_standing; held = held_are_the_live_nodes }
