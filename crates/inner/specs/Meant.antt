-- The moment of a service that an engine means by what it keeps beside its store. Rests on sheets and on moments.
use Rattle.std.specs.Prelude.{◌≡◌, ℕ, ◌≤◌, Bool, true, false, List, [], ◌∷◌, length, reverse, is_some, Some, None, Option}
use Rattle.plain.specs.Feeding.{entry_limit}
use Rattle.plain.specs.States.{Sheet}
use Rattle.plain.specs.Calls.{Phase, is_bare, is_open, is_running, is_done}
use Rattle.sheet.specs.declared.passed.Sheet.{Sheet as LoadedSheet}
use Rattle.sheet.specs.Sheets.{bytes_of, sheet_tables}
use Rattle.standing.specs.declared.frames.Frame.{Frame}
use Rattle.standing.specs.declared.frames.Input.{Input}
use Rattle.standing.specs.Stepping.{word_frame}
use Rattle.standing.specs.Moments.{Moment, bare, open_with, running_with, done_with}
use Rattle.inner.specs.declared.kept.Inner.{Inner}
use Rattle.inner.specs.declared.kept.State.{State}
use Rattle.inner.specs.declared.kept.State.TheVariants.{Bare, Open, Running, Done}

-- what is read where no caller is suspended
abbrev pub no_frame : Frame
no_frame = word_frame 0 [] 0

-- the sheet that was loaded, by its bytes and tables
abbrev pub sheet_of : LoadedSheet → Sheet
sheet_of s = record { bytes = bytes_of s; tables = sheet_tables s }

-- the input stack, the top first
abbrev pub input_stack : Inner → List Input
input_stack i = reverse i.inputs.items

-- the frames beneath the newest, and all of them, the newest first
abbrev pub suspended : Inner → List Frame
suspended i = reverse i.callers.items

abbrev pub frame_stack : Inner → List Frame
frame_stack i = i.frame ∷ suspended i

-- what counts in each state
abbrev pub moment_in : State → Option LoadedSheet → Inner → Moment
moment_in Bare s i = bare
moment_in Open None i = bare
moment_in Open (Some s) i = open_with (sheet_of s) (input_stack i)
moment_in Running None i = bare
moment_in Running (Some s) i = running_with (sheet_of s) (frame_stack i)
moment_in Done None i = bare
moment_in Done (Some s) i = done_with (sheet_of s) i.result

-- The moment that an engine means. What does not count in its state is no part of it.
abbrev pub moment : Inner → Moment
moment i = moment_in i.state i.sheet i

abbrev pub phase_of : State → Phase
phase_of Bare = is_bare
phase_of Open = is_open
phase_of Running = is_running
phase_of Done = is_done

-- the states in which a sheet may be loaded
abbrev pub admits_load : State → Bool
admits_load Bare = true
admits_load Open = true
admits_load Running = false
admits_load Done = false

-- there is a sheet unless the engine is Bare
abbrev pub Loaded : State → Option LoadedSheet → Type 0
Loaded Bare s = Unit {0}
Loaded Open s = is_some s ≡ true
Loaded Running s = is_some s ≡ true
Loaded Done s = is_some s ≡ true

-- the frames that are suspended at most
abbrev pub caller_limit : ℕ
caller_limit = 63

-- The entries and the suspended frames are within their limits, and there is a sheet unless the engine is Bare. The vectors' type
-- keeps the two bounds, but other crates learn them only from its calls, so they are said here.
pub record WellKept (i : Inner) : Type 0 where
  pub few_inputs : length i.inputs.items ≤ entry_limit
  pub few_callers : length i.callers.items ≤ caller_limit
  pub loaded : Loaded i.state i.sheet
