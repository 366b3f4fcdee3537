-- The calls of a run: step, advance, pull and abandon. Rests on the plain reading and on the states.
use Rattle.std.specs.Prelude.{ℕ, zero, suc, ◌+◌, List, []}
use Rattle.plain.specs.Values.{Value, num, empty, node}
use Rattle.plain.specs.Reading.{Frame, Outcome, goes_on, ends, refused, stuck, step}
use Rattle.plain.specs.Calls.{excluded, advance_excluded, too_deep, too_deep_after, refused_with, accepted, in_phase, advanced, pulled, at_end, is_running, is_done}
use Rattle.plain.specs.States.{Sheet, program_of, State, bare, open_with, running_with, done_with, Served, served, refuse}

-- what follows from a step on these frames; a step that is stuck would alter nothing
abbrev pub stepped : Sheet → List Frame → Outcome → Served
stepped s fs (goes_on gs) = served (in_phase is_running) (running_with s gs)
stepped s fs (ends v) = served (in_phase is_done) (done_with s v)
stepped s fs refused = refuse too_deep (running_with s fs)
stepped s fs stuck = served (in_phase is_running) (running_with s fs)

abbrev pub step_from : State → Served
step_from bare = refuse excluded bare
step_from (open_with s es) = refuse excluded (open_with s es)
step_from (running_with s fs) = stepped s fs (step (program_of s) fs)
step_from (done_with s v) = refuse excluded (done_with s v)

-- what follows from the step of an advance that has made some: `onward` is the rest of the advance, one step further
abbrev pub advance_stepped : Sheet → ℕ → List Frame → Outcome → (List Frame → Served) → Served
advance_stepped s made fs (goes_on gs) onward = onward gs
advance_stepped s made fs (ends v) onward = served (advanced (made + 1) is_done) (done_with s v)
advance_stepped s made fs refused onward = served (refused_with (too_deep_after made)) (running_with s fs)
advance_stepped s made fs stuck onward = served (advanced made is_running) (running_with s fs)

-- so many steps more, or fewer if the run ends or a step is refused; the steps before a refusal stand
abbrev pub advance_by : Sheet → ℕ → ℕ → List Frame → Served
advance_by s zero made fs = served (advanced made is_running) (running_with s fs)
advance_by s (suc n) made fs = advance_stepped s made fs (step (program_of s) fs) (λ gs. advance_by s n (made + 1) gs)

abbrev pub advance_from : State → ℕ → Served
advance_from bare n = refuse advance_excluded bare
advance_from (open_with s es) n = refuse advance_excluded (open_with s es)
advance_from (running_with s fs) n = advance_by s n 0 fs
advance_from (done_with s v) n = refuse advance_excluded (done_with s v)

-- the number that an element is; the elements of a result are Numbers
abbrev pub number_in : Value → ℕ
number_in (num n) = n
number_in empty = 0
number_in (node h l) = 0

-- the first number of the result, which drops it, or the end
abbrev pub pull_result : Sheet → Value → Served
pull_result s (num n) = served at_end (open_with s [])
pull_result s empty = served at_end (open_with s [])
pull_result s (node h l) = served (pulled (number_in h)) (done_with s l)

abbrev pub pull_from : State → Served
pull_from bare = refuse excluded bare
pull_from (open_with s es) = refuse excluded (open_with s es)
pull_from (running_with s fs) = refuse excluded (running_with s fs)
pull_from (done_with s v) = pull_result s v

-- input, run and result are dropped; the sheet stays
abbrev pub abandon_from : State → Served
abandon_from bare = served accepted bare
abandon_from (open_with s es) = served accepted (open_with s [])
abandon_from (running_with s fs) = served accepted (open_with s [])
abandon_from (done_with s v) = served accepted (open_with s [])
