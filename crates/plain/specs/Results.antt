-- What a service answers, in terms of the functional reading: its result is the value of function 0 at what was fed, and its
-- pulls answer the numbers of that value. Rests on the functional reading and on whole services.
use Rattle.std.specs.Prelude.{◌≡◌, ℕ, suc, List, [], ◌∷◌, ◌++◌, map, reverse, length, replicate}
use Rattle.plain.specs.Values.{Value, num, empty, node}
use Rattle.plain.specs.Calls.{Request, fund, pull, accepted, pulled, at_end}
use Rattle.plain.specs.States.{Sheet, State, bare, open_with, running_with, done_with}
use Rattle.plain.specs.Running.{number_in}
use Rattle.plain.specs.Service.{answer_to, state_after, answers_to, state_behind}
use Rattle.plain.specs.Funded.{Numbers}
use Rattle.plain.specs.Promise.{WhileRunning}
use Rattle.plain.specs.Functional.{nesting_limit, Computes}

-- the values of the entries that were fed, first pushed first
abbrev pub fed_values : State → List Value
fed_values bare = []
fed_values (open_with s es) = map (λ e. e.value) (reverse es)
fed_values (running_with s fs) = []
fed_values (done_with s v) = []

-- the numbers of a list of Numbers, in their order
abbrev pub numbers_of : Value → List ℕ
numbers_of (num n) = []
numbers_of empty = []
numbers_of (node h l) = number_in h ∷ numbers_of l

-- pulls from the result v answer its numbers one by one and then the end, which leaves the sheet open with nothing fed
pub record PulledOut (capacity : ℕ) (s : Sheet) (v : Value) : Type 0 where
  pub answers : answers_to capacity (done_with s v) (replicate (suc (length (numbers_of v))) pull) ≡ map pulled (numbers_of v) ++ (at_end ∷ [])
  pub after : state_behind capacity (done_with s v) (replicate (suc (length (numbers_of v))) pull) ≡ open_with s []

-- So it is with every list of Numbers.
abbrev pub PullsAnswerTheValue : Type 0
PullsAnswerTheValue = (capacity : ℕ) (s : Sheet) (v : Value) → Numbers v → PulledOut capacity s v

-- A service that is made, any calls, a fund that is accepted, any calls while the run is on, by which the run has ended with v:
-- then v is the value of function 0 at what was fed, first pushed first, and pulls answer its numbers.
abbrev pub AResultIsTheFunctionsValue : Type 0
AResultIsTheFunctionsValue =
    (capacity : ℕ) (before during : List Request) (s : Sheet) (v : Value) →
    answer_to capacity (state_behind capacity bare before) fund ≡ accepted →
    WhileRunning capacity (state_after capacity (state_behind capacity bare before) fund) during →
    state_behind capacity (state_after capacity (state_behind capacity bare before) fund) during ≡ done_with s v →
    Computes s nesting_limit 0 (fed_values (state_behind capacity bare before)) v × PulledOut capacity s v
