use Rattle.plain.proofs.Advancing.{only_depth_stops_a_run}
use Rattle.plain.proofs.law.only_depth_stops_a_run.Goals as goal

pub returns : goal.returns
returns c = only_depth_stops_a_run
