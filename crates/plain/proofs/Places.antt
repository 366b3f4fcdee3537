-- Where the derivation of a sheet continues, a step stands.
use Rattle.std.proofs.Common.{ℕ, List}
use Rattle.rules.specs.Types.{Ty}
use Rattle.rules.specs.Contexts.{Context}
use Rattle.rules.proofs.Reached.{branch_step, derives_step}
use Rattle.plain.specs.Reading.{Frame}
use Rattle.plain.specs.States.{Sheet, program_of}
use Rattle.plain.specs.Paid.{Continues, Suspended, no_caller, a_caller, Paid, paid}
use Rattle.plain.specs.Places.{StandsAt, AllStand, no_frames, one_frame, FramesStandAtSteps}

module _ (s : Sheet) where
  pub continues_stands : {A : Ty} {m b o : ℕ} {Γ : Context} → Continues (program_of s) A m Γ b o → StandsAt s o
  continues_stands c =
      let x = branch_step (program_of s) c.branch in
      record { action = x.step; fetched = x.stands; fields = x.fields; known = derives_step c.derives }

  suspended_stand : {A : Ty} {r : ℕ} {B : Ty} {d m amount : ℕ} {fs : List Frame} → Suspended (program_of s) A r d B m amount fs → AllStand s fs
  suspended_stand no_caller = no_frames
  suspended_stand (a_caller balance filled may inside continues beneath is) = one_frame (continues_stands continues) (suspended_stand beneath)

  paid_stand : {A : Ty} {r spare purse : ℕ} {fs : List Frame} → Paid (program_of s) A r spare purse fs → AllStand s fs
  paid_stand (paid filled continues suspended enough few) = one_frame (continues_stands continues) (suspended_stand suspended)

pub frames_stand_at_steps : FramesStandAtSteps
frames_stand_at_steps s spare capacity fs funded = paid_stand s funded.pays
