-- What the calls step and advance come to on a funded run. Rests on funded runs and on the calls of a run.
use Rattle.std.specs.Prelude.{◌≡◌, ℕ, ◌+◌, ◌<◌, List, ◌∷◌, length, Some}
use Rattle.records.specs.declared.kinds.Step.{Step as Action}
use Rattle.records.specs.declared.kinds.Record.TheVariants.{Step}
use Rattle.rules.specs.Lawful.{Lawful}
use Rattle.plain.specs.Values.{Value}
use Rattle.plain.specs.Reading.{Frame, goes_on, ends, step}
use Rattle.plain.specs.Calls.{one_step, advance, is_running, is_done, too_deep, too_deep_after, in_phase, advanced, refused_with}
use Rattle.plain.specs.States.{Sheet, program_of, running_with, done_with, Served, served}
use Rattle.plain.specs.Service.{serve}
use Rattle.plain.specs.Funded.{TooDeep, Makes, Funded, Ended}

-- the newest frame has come to a Call, and there are 64 frames
pub data StopsAt (s : Sheet) : List Frame → Type 0 where
  stops_at : {a : Action} {f : Frame} {fs : List Frame} → (program_of s).fetched f.next ≡ Some (Step a) → TooDeep a (length (f ∷ fs)) → StopsAt s (f ∷ fs)

-- a step goes on, ends the run, or is refused, the last exactly at a Call with 64 frames
pub data Steps (s : Sheet) (spare capacity : ℕ) (fs : List Frame) : Served → Type 0 where
  steps_on : {gs : List Frame} → (StopsAt s fs → ⊥) → step (program_of s) fs ≡ goes_on gs → Funded s spare capacity gs →
      Steps s spare capacity fs (served (in_phase is_running) (running_with s gs))
  steps_to_end : {v : Value} → (StopsAt s fs → ⊥) → step (program_of s) fs ≡ ends v → Ended s spare capacity v →
      Steps s spare capacity fs (served (in_phase is_done) (done_with s v))
  step_refused : StopsAt s fs → Steps s spare capacity fs (served (refused_with too_deep) (running_with s fs))

-- an advance of n steps makes them all; or the run ends with the step after some, fewer than n; or the step after some, fewer
-- than n, is a Call with 64 frames, at which the advance is refused and the steps before stand
pub data Advances (s : Sheet) (spare capacity n : ℕ) (fs : List Frame) : Served → Type 0 where
  makes_all : {gs : List Frame} → Makes (program_of s) n fs gs → Funded s spare capacity gs →
      Advances s spare capacity n fs (served (advanced n is_running) (running_with s gs))
  ends_after : {k : ℕ} {gs : List Frame} {v : Value} → k < n → Makes (program_of s) k fs gs → step (program_of s) gs ≡ ends v →
      Ended s spare capacity v → Advances s spare capacity n fs (served (advanced (k + 1) is_done) (done_with s v))
  stops_after : {k : ℕ} {gs : List Frame} → k < n → Makes (program_of s) k fs gs → Funded s spare capacity gs → StopsAt s gs →
      Advances s spare capacity n fs (served (refused_with (too_deep_after k)) (running_with s gs))

-- So it is with both calls on every funded run.
abbrev pub OnlyDepthStopsARun : Type 0
OnlyDepthStopsARun =
    (s : Sheet) (spare capacity : ℕ) (fs : List Frame) → Lawful s.bytes s.tables → Funded s spare capacity fs →
    Steps s spare capacity fs (serve capacity (running_with s fs) one_step) ×
    ((n : ℕ) → Advances s spare capacity n fs (serve capacity (running_with s fs) (advance n)))
