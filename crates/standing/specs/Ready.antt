-- What a step of a funded run finds, on words: all that it needs, with no test. Rests on the law of amounts and on what words stand
-- for.
use Rattle.std.specs.Prelude.{◌≡◌, ℕ, ◌<◌, ◌≤◌, true, List, ◌∷◌, length, is_some, Some, ◌≢◌}
use Rattle.records.specs.declared.kinds.Step.{Step as Action}
use Rattle.records.specs.declared.kinds.Step.TheVariants.{Match}
use Rattle.records.specs.declared.kinds.Record.TheVariants.{Step}
use Rattle.cells.specs.Cells.{Map, Numbered, free}
use Rattle.rules.specs.Limits.{slot_count}
use Rattle.rules.specs.Branches.{Fields, ListType}
use Rattle.rules.specs.Reach.{StepStands}
use Rattle.rules.specs.Lawful.{Lawful}
use Rattle.plain.specs.Charges.{charge}
use Rattle.plain.specs.Reading as plain
use Rattle.plain.specs.States.{Sheet, program_of}
use Rattle.plain.specs.Funded.{Funded}
use Rattle.standing.specs.declared.frames.Slot.{Slot}
use Rattle.standing.specs.declared.frames.Frame.{Frame}
use Rattle.standing.specs.Stepping.{slot_in, slot_word, slot_type}
use Rattle.standing.specs.Standing.{RunStands}

-- a list that is taken apart: its type number is that of a list type, and its first cell is held
pub record TakenApart (s : Sheet) (m : Map) (x : Slot) : Type 0 where
  pub known : ListType s.tables.types (slot_type x)
  pub held : is_some (m (slot_word x)) ≡ true

-- At the newest frame f, with the frames fs beneath it: a step stands there with its fields in their ranges; a cell is free if it
-- makes a node; a Match that finds a list finds a node; and a caller has the slot that awaits the result.
pub record Ready (s : Sheet) (capacity : ℕ) (m : Map) (f : Frame) (fs : List Frame) : Type 0 where
  pub action : Action
  pub fetched : (program_of s).fetched f.next ≡ Some (Step action)
  pub stands : StepStands s.bytes f.next
  pub fields : Fields (program_of s) action
  pub room : charge action ≤ free capacity m
  pub width : length f.slots ≡ slot_count
  pub few : length (f ∷ fs) ≤ plain.frame_limit
  pub awaited : 0 < length fs → f.awaiting < slot_count
  pub a_node : (a h l second : ℕ) → action ≡ Match a h l second → (slot_word (slot_in f.slots a) ≢ 0) → TakenApart s m (slot_in f.slots a)

abbrev pub AStepFindsWhatItNeeds : Type 0
AStepFindsWhatItNeeds =
    (s : Sheet) (spare capacity : ℕ) (m : Map) (f : Frame) (fs : List Frame) (values : List plain.Frame) → Lawful s.bytes s.tables → Numbered m →
    Funded s spare capacity values → RunStands s.tables.types m (f ∷ fs) values → Ready s capacity m f fs
