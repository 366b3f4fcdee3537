-- What a whole run leaves, from its funding to its end, under whatever calls. Rests on what holds in every state.
use Rattle.std.specs.Prelude.{◌≡◌, ℕ, ◌+◌, ◌-◌, ◌≤◌, List, [], ◌∷◌}
use Rattle.plain.specs.Values.{Value, potential}
use Rattle.plain.specs.Reading.{Frame}
use Rattle.plain.specs.Calls.{Request, fund, accepted}
use Rattle.plain.specs.States.{Sheet, State, bare, running_with, done_with, free, price}
use Rattle.plain.specs.Service.{answer_to, state_after, state_behind}
use Rattle.plain.specs.Funded.{Numbers, result_type, result_remainder}

-- each of these calls, one after the other, is made while the run is on
pub data WhileRunning (capacity : ℕ) : State → List Request → Type 0 where
  no_call : {s : State} → WhileRunning capacity s []
  one_call : {s : Sheet} {fs : List Frame} {r : Request} {rs : List Request} → WhileRunning capacity (state_after capacity (running_with s fs) r) rs →
      WhileRunning capacity (running_with s fs) (r ∷ rs)

-- A service that is made, any calls, a fund that is accepted, any calls while the run is on, by which the run has ended with v:
-- then v is a list of Numbers. Of what was free at the funding, no more than the price is gone; and beyond that, what v brings
-- along and the remainder of function 0 are free.
abbrev pub ARunLeavesWhatWasPromised : Type 0
ARunLeavesWhatWasPromised =
    (capacity : ℕ) (before during : List Request) (s : Sheet) (v : Value) →
    answer_to capacity (state_behind capacity bare before) fund ≡ accepted →
    WhileRunning capacity (state_after capacity (state_behind capacity bare before) fund) during →
    state_behind capacity (state_after capacity (state_behind capacity bare before) fund) during ≡ done_with s v →
    Numbers v ×
    (free capacity (state_behind capacity bare before) - price (state_behind capacity bare before) + potential (result_type s) v + result_remainder s ≤
    free capacity (done_with s v))
