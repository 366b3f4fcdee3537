use Rattle.plain.proofs.Places.{frames_stand_at_steps}
use Rattle.plain.proofs.law.frames_stand_at_steps.Goals as goal

pub returns : goal.returns
returns c = frames_stand_at_steps
