-- The result of a whole run is the value of function 0, by where each of its calls has brought it; and pulls answer its numbers.
use Rattle.std.proofs.Common.{◌≡◌, ℕ, zero, suc, ◌+◌, leb, List, [], ◌∷◌, sym, refl, ap, subst}
use Rattle.rules.specs.Programs.{Program}
use Rattle.rules.specs.Lawful.{Lawful}
use Rattle.rules.proofs.Truth.{impossible}
use Rattle.plain.specs.Values.{Value}
use Rattle.plain.specs.Reading.{Frame, Outcome, goes_on, ends, refused, stuck, step, entered}
use Rattle.plain.specs.Calls.{Request, load, feed, fund, one_step, advance, pull, abandon, ask_price, ask_free, ask_held, ask_state, accepted, pulled}
use Rattle.plain.specs.States.{Sheet, program_of, main_function, State, bare, open_with, running_with, done_with, free, price_of, Served}
use Rattle.plain.specs.Feeding.{are_parameters}
use Rattle.plain.specs.Running.{stepped, advance_stepped, advance_by}
use Rattle.plain.specs.Service.{answer_to, state_after, state_behind}
use Rattle.plain.specs.Funded.{Numbers, no_numbers, one_number, Makes, makes_none, makes_one}
use Rattle.plain.specs.Order.{InOrder, bare_in_order, open_in_order}
use Rattle.plain.specs.Promise.{WhileRunning, no_call, one_call}
use Rattle.plain.specs.Functional.{nesting_limit, Computes, RunEnds}
use Rattle.plain.specs.Results.{fed_values, PulledOut, PullsAnswerTheValue, AResultIsTheFunctionsValue}
use Rattle.plain.proofs.Funding.{begins}
use Rattle.plain.proofs.Order.{keeps_order_behind}
use Rattle.plain.proofs.Promise.{a_run_leaves_what_was_promised}
use Rattle.plain.proofs.Unwinding.{a_run_ends_with_the_functions_value}

one_more : {p : Program} {n : ℕ} {fs gs hs : List Frame} → Makes p n fs gs → step p gs ≡ goes_on hs → Makes p (suc n) fs hs
one_more makes_none e = makes_one e makes_none
one_more (makes_one x run) e = makes_one x (one_more run e)

-- so many steps of the run of function 0 on these arguments lead to these frames
abbrev Reaches : Sheet → List Value → ℕ → List Frame → Type 0
Reaches s arguments n fs = Makes (program_of s) n (entered (main_function s) arguments 0 ∷ []) fs

-- where the run of function 0 on these arguments has come to: it is on, it has ended, or it was given up
data HasCome (s : Sheet) (arguments : List Value) : State → Type 0 where
  is_on : {n : ℕ} {fs : List Frame} → Reaches s arguments n fs → HasCome s arguments (running_with s fs)
  has_ended : {v : Value} → RunEnds s arguments v → HasCome s arguments (done_with s v)
  given_up : HasCome s arguments (open_with s [])

module _ {s : Sheet} {arguments : List Value} where
  step_comes : {n : ℕ} {fs : List Frame} → Reaches s arguments n fs → (o : Outcome) → step (program_of s) fs ≡ o →
      HasCome s arguments (stepped s fs o).after
  step_comes run (goes_on gs) e = is_on (one_more run e)
  step_comes {n} {fs} run (ends v) e = has_ended (record { steps = n; frames = fs; makes = run; last = e })
  step_comes run refused e = is_on run
  step_comes run stuck e = is_on run

  advance_steps : {n : ℕ} {fs : List Frame} (made : ℕ) (onward : List Frame → Served) → Reaches s arguments n fs →
      (o : Outcome) → step (program_of s) fs ≡ o →
      ((gs : List Frame) → Reaches s arguments (suc n) gs → HasCome s arguments (onward gs).after) →
      HasCome s arguments (advance_stepped s made fs o onward).after
  advance_steps made onward run (goes_on gs) e then = then gs (one_more run e)
  advance_steps {n} {fs} made onward run (ends v) e then = has_ended (record { steps = n; frames = fs; makes = run; last = e })
  advance_steps made onward run refused e then = is_on run
  advance_steps made onward run stuck e then = is_on run

  advance_comes : {n : ℕ} (more made : ℕ) (fs : List Frame) → Reaches s arguments n fs →
      HasCome s arguments (advance_by s more made fs).after
  advance_comes zero made fs run = is_on run
  advance_comes (suc more) made fs run =
      advance_steps made (λ gs. advance_by s more (made + 1) gs) run (step (program_of s) fs) refl (λ gs next. advance_comes more (made + 1) gs next)

  -- each call on a run
  call_comes : {n : ℕ} (capacity : ℕ) (fs : List Frame) (r : Request) → Reaches s arguments n fs →
      HasCome s arguments (state_after capacity (running_with s fs) r)
  call_comes capacity fs (load bytes) run = is_on run
  call_comes capacity fs (feed bytes) run = is_on run
  call_comes capacity fs fund run = is_on run
  call_comes capacity fs one_step run = step_comes run (step (program_of s) fs) refl
  call_comes capacity fs (advance more) run = advance_comes more 0 fs run
  call_comes capacity fs pull run = is_on run
  call_comes capacity fs abandon run = given_up
  call_comes capacity fs ask_price run = is_on run
  call_comes capacity fs ask_free run = is_on run
  call_comes capacity fs ask_held run = is_on run
  call_comes capacity fs ask_state run = is_on run

  calls_come : {capacity : ℕ} {x : State} {rs : List Request} → WhileRunning capacity x rs → HasCome s arguments x →
      HasCome s arguments (state_behind capacity x rs)
  calls_come no_call here = here
  calls_come {capacity} (one_call {fs = fs} {r = r} more) (is_on run) = calls_come more (call_comes capacity fs r run)

  -- the end is that of the run's own sheet
  came_to_end : {t : Sheet} {x : State} {v : Value} → Lawful s.bytes s.tables → HasCome s arguments x → x ≡ done_with t v →
      Computes t nesting_limit 0 arguments v
  came_to_end lawful (is_on run) e = impossible (cc)
  came_to_end {t} {v = v} lawful (has_ended {v = u} run) e =
      let same : s ≡ t = cc in
      let value : u ≡ v = cc in
      subst (λ y. Computes y nesting_limit 0 arguments v) same
      (subst (λ y. Computes s nesting_limit 0 arguments y) value (a_run_ends_with_the_functions_value s arguments u lawful run))
  came_to_end lawful given_up e = impossible (cc)

result_computed : (capacity : ℕ) (x : State) (during : List Request) (s : Sheet) (v : Value) → InOrder capacity x → answer_to capacity x fund ≡ accepted →
    WhileRunning capacity (state_after capacity x fund) during → state_behind capacity (state_after capacity x fund) during ≡ done_with s v →
    Computes s nesting_limit 0 (fed_values x) v
result_computed capacity bare during s v here funds on end = impossible (cc)
result_computed capacity (open_with t es) during s v (open_in_order lawful typed few within) funds on end =
    let start = begins (are_parameters t es) (leb (price_of t es) (free capacity (open_with t es))) _ _ _ _ funds in
    let arguments = fed_values (open_with t es) in
    came_to_end lawful (calls_come on (subst (λ y. HasCome t arguments y) (sym start) (is_on makes_none))) end
result_computed capacity (running_with t fs) during s v here funds on end = impossible (cc)
result_computed capacity (done_with t u) during s v here funds on end = impossible (cc)

pulled_out : (capacity : ℕ) (s : Sheet) {v : Value} → Numbers v → PulledOut capacity s v
pulled_out capacity s no_numbers = record { answers = refl; after = refl }
pulled_out capacity s (one_number {n = n} more) =
    let rest = pulled_out capacity s more in record { answers = ap (λ answers. pulled n ∷ answers) rest.answers; after = rest.after }

pub pulls_answer_the_value : PullsAnswerTheValue
pulls_answer_the_value capacity s v numbers = pulled_out capacity s numbers

pub a_result_is_the_functions_value : AResultIsTheFunctionsValue
a_result_is_the_functions_value capacity before during s v funds on end = (
  result_computed capacity (state_behind capacity bare before) during s v (keeps_order_behind capacity bare before bare_in_order) funds on end,
  pulled_out capacity s (a_run_leaves_what_was_promised capacity before during s v funds on end).0,
)
