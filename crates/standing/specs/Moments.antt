-- The moments of a service on words, and what they stand for. Rests on frames, input stack and result.
use Rattle.std.specs.Prelude.{ℕ, List}
use Rattle.cells.specs.Cells.{Map, Unheld}
use Rattle.rules.specs.Lawful.{Lawful}
use Rattle.plain.specs.Values.{Value}
use Rattle.plain.specs.Reading as plain
use Rattle.plain.specs.Calls.{Phase, is_bare, is_open, is_running, is_done}
use Rattle.plain.specs.States as plain_states
use Rattle.plain.specs.States.{Sheet, State, Entry}
use Rattle.plain.specs.Funded.{Numbers, Funded}
use Rattle.standing.specs.declared.frames.Slot.{Slot}
use Rattle.standing.specs.declared.frames.Frame.{Frame}
use Rattle.standing.specs.declared.frames.Input.{Input}
use Rattle.standing.specs.Standing.{RunStands, ResultStands}
use Rattle.standing.specs.Inputs.{InputsStand}

-- Bare; Open with an input stack, the top first; Running with frames, the newest first; Done with a result: all on words.
pub data Moment : Type 0 where
  bare : Moment
  open_with : Sheet → List Input → Moment
  running_with : Sheet → List Frame → Moment
  done_with : Sheet → Slot → Moment

abbrev pub phase : Moment → Phase
phase bare = is_bare
phase (open_with s es) = is_open
phase (running_with s fs) = is_running
phase (done_with s x) = is_done

-- A moment and the cells of a store stand for a state of the plain service: so do input stack, frames and result, and the held
-- cells are exactly the nodes of these.
pub data Stands (m : Map) : Moment → State → Type 0 where
  bare_stands : ((c : ℕ) → Unheld m c) → Stands m bare plain_states.bare
  open_stands : {s : Sheet} {words : List Input} {entries : List Entry} → InputsStand s.tables.types m words entries →
      Stands m (open_with s words) (plain_states.open_with s entries)
  run_stands : {s : Sheet} {words : List Frame} {values : List plain.Frame} → RunStands s.tables.types m words values →
      Stands m (running_with s words) (plain_states.running_with s values)
  done_stands : {s : Sheet} {words : Slot} {v : Value} → ResultStands s.tables.types m words v →
      Stands m (done_with s words) (plain_states.done_with s v)

-- What every state has that a service comes to: its sheet is lawful, its run is funded, and its result is a list of Numbers.
pub data Sound (capacity : ℕ) : State → Type 0 where
  sound_bare : Sound capacity plain_states.bare
  sound_open : {s : Sheet} {es : List Entry} → Lawful s.bytes s.tables → Sound capacity (plain_states.open_with s es)
  sound_running : {s : Sheet} {fs : List plain.Frame} (spare : ℕ) → Lawful s.bytes s.tables → Funded s spare capacity fs →
      Sound capacity (plain_states.running_with s fs)
  sound_done : {s : Sheet} {v : Value} → Lawful s.bytes s.tables → Numbers v → Sound capacity (plain_states.done_with s v)
