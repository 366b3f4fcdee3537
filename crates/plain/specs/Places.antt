-- Where the frames of a run stand: at offsets of the sheet where a step begins. Rests on what stands at an offset.
use Rattle.std.specs.Prelude.{◌≡◌, ℕ, List, [], ◌∷◌, Some}
use Rattle.records.specs.declared.kinds.Step.{Step as Action}
use Rattle.records.specs.declared.kinds.Record.TheVariants.{Step}
use Rattle.rules.specs.Branches.{Fields}
use Rattle.rules.specs.Reach.{StepStands}
use Rattle.plain.specs.Reading.{Frame}
use Rattle.plain.specs.States.{Sheet, program_of}
use Rattle.plain.specs.Funded.{Funded}

-- at this offset of a sheet a step stands, with its fields in their ranges
pub record StandsAt (s : Sheet) (o : ℕ) : Type 0 where
  pub action : Action
  pub fetched : (program_of s).fetched o ≡ Some (Step action)
  pub fields : Fields (program_of s) action
  pub known : StepStands s.bytes o

-- so it is for the next offset of every frame
pub data AllStand (s : Sheet) : List Frame → Type 0 where
  no_frames : AllStand s []
  one_frame : {f : Frame} {fs : List Frame} → StandsAt s f.next → AllStand s fs → AllStand s (f ∷ fs)

-- In a funded run every frame, the newest and those suspended, has come to a step: what is fetched there is known with no test.
abbrev pub FramesStandAtSteps : Type 0
FramesStandAtSteps = (s : Sheet) (spare capacity : ℕ) (fs : List Frame) → Funded s spare capacity fs → AllStand s fs
