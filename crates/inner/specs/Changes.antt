-- What an engine keeps after a change of one part. Rests on what it keeps.
use Rattle.std.specs.Prelude.{ℕ, ◌-◌, List, [], ◌∷◌, ◌++◌, length, take, Some, slice_index_or, slice_set}
use Rattle.sheet.specs.declared.passed.Sheet.{Sheet as LoadedSheet}
use Rattle.standing.specs.declared.frames.Slot.{Slot}
use Rattle.standing.specs.declared.frames.Frame.{Frame}
use Rattle.standing.specs.declared.frames.Input.{Input}
use Rattle.standing.specs.Stepping.{word_frame}
use Rattle.inner.specs.declared.kept.Inner.{Inner}
use Rattle.inner.specs.declared.kept.State.{State}
use Rattle.inner.specs.declared.kept.State.TheVariants.{Bare, Open, Running, Done}
use Rattle.inner.specs.Meant.{no_frame}

-- the newest frame is another
abbrev pub with_frame : Inner → Frame → Inner
with_frame i f = record i { frame = f }

-- so are its slots
abbrev pub with_slots : Inner → List Slot → Inner
with_slots i S = with_frame i (word_frame i.frame.next S i.frame.awaiting)

-- a function is called: its frame is the newest, and its caller, as it is then, is suspended
abbrev pub with_call : Inner → Frame → Frame → Inner
with_call i callee caller = record i { frame = callee; callers = record { items = i.callers.items ++ caller ∷ [] } }

-- the caller that was suspended last is the newest frame again, with what it awaited in its slot
abbrev pub resumed : Frame → ℕ → Slot → Frame
resumed f w x = word_frame f.next (slice_set f.slots w x) f.awaiting

-- the caller that was suspended last, and those beneath it
abbrev pub last_caller : Inner → Frame
last_caller i = slice_index_or i.callers.items (length i.callers.items - 1) no_frame

abbrev pub other_callers : Inner → List Frame
other_callers i = take (length i.callers.items - 1) i.callers.items

abbrev pub with_return : Inner → Slot → Inner
with_return i x = record i { frame = resumed (last_caller i) i.frame.awaiting x; callers = record { items = other_callers i } }

-- the run is over with this result; so is a pull that leaves another
abbrev pub with_result : Inner → Slot → Inner
with_result i x = record i { state = Done; result = x }

-- these inputs are on the stack
abbrev pub with_inputs : Inner → List Input → Inner
with_inputs i xs = record i { inputs = record { items = xs } }

-- Open with an empty input stack
abbrev pub opened : Inner → Inner
opened i = record i { state = Open; inputs = record { items = [] } }

-- the same with a sheet that was just loaded
abbrev pub opened_with : Inner → LoadedSheet → Inner
opened_with i s = record i { state = Open; sheet = Some s; inputs = record { items = [] } }

-- Running with one frame
abbrev pub started : Inner → Frame → Inner
started i f = record i { state = Running; frame = f; callers = record { items = [] } }

-- Bare stays as it is; anything else is Open with an empty input stack
abbrev pub abandoned_in : State → Inner → Inner
abandoned_in Bare i = i
abandoned_in Open i = opened i
abandoned_in Running i = opened i
abandoned_in Done i = opened i

abbrev pub abandoned : Inner → Inner
abandoned i = abandoned_in i.state i
