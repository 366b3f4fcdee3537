-- Every call keeps a service in order.
use Rattle.std.proofs.Common.{ℕ, ◌≤◌, List, [], ◌∷◌, refl, arith}
use Rattle.rules.specs.Lawful.{Lawful}
use Rattle.rules.specs.Verdict.{verdict}
use Rattle.plain.specs.Reading.{Frame}
use Rattle.plain.specs.Calls.{Request, load, feed, fund, one_step, advance, pull, abandon, ask_price, ask_free, ask_held, ask_state}
use Rattle.plain.specs.States.{Sheet, State, bare, open_with, running_with, done_with, live_nodes, Served}
use Rattle.plain.specs.Feeding.{fed}
use Rattle.plain.specs.Service.{state_after, state_behind}
use Rattle.plain.specs.Funded.{Funded}
use Rattle.plain.specs.Advancing.{Steps, steps_on, steps_to_end, step_refused, Advances, makes_all, ends_after, stops_after}
use Rattle.plain.specs.Order.{InOrder, bare_in_order, open_in_order, running_in_order, done_in_order, AServiceStaysInOrder}
use Rattle.plain.specs.Order.{RunsOn, still_funded, ended_funded, given_up, CallsKeepWhatIsPaid}
use Rattle.plain.proofs.Advancing.{steps, advances}
use Rattle.plain.proofs.Feeding.{emptied, loads, feeds, funds, pulls}

-- a run under each call
steps_run : {s : Sheet} {spare capacity : ℕ} {fs : List Frame} {x : Served} → Funded s spare capacity fs → Steps s spare capacity fs x → RunsOn s spare capacity x.after
steps_run funded (steps_on shallow e next) = still_funded next
steps_run funded (steps_to_end shallow e ended) = ended_funded ended
steps_run funded (step_refused stop) = still_funded funded

advances_run : {s : Sheet} {spare capacity n : ℕ} {fs : List Frame} {x : Served} → Advances s spare capacity n fs x → RunsOn s spare capacity x.after
advances_run (makes_all run funded) = still_funded funded
advances_run (ends_after less run e ended) = ended_funded ended
advances_run (stops_after less run funded stop) = still_funded funded

pub calls_keep_what_is_paid : CallsKeepWhatIsPaid
calls_keep_what_is_paid s spare capacity fs (load bytes) lawful funded = still_funded funded
calls_keep_what_is_paid s spare capacity fs (feed bytes) lawful funded = still_funded funded
calls_keep_what_is_paid s spare capacity fs fund lawful funded = still_funded funded
calls_keep_what_is_paid s spare capacity fs one_step lawful funded = steps_run funded (steps s spare capacity lawful fs funded)
calls_keep_what_is_paid s spare capacity fs (advance n) lawful funded = advances_run (advances s spare capacity lawful n fs funded)
calls_keep_what_is_paid s spare capacity fs pull lawful funded = still_funded funded
calls_keep_what_is_paid s spare capacity fs abandon lawful funded = given_up
calls_keep_what_is_paid s spare capacity fs ask_price lawful funded = still_funded funded
calls_keep_what_is_paid s spare capacity fs ask_free lawful funded = still_funded funded
calls_keep_what_is_paid s spare capacity fs ask_held lawful funded = still_funded funded
calls_keep_what_is_paid s spare capacity fs ask_state lawful funded = still_funded funded

module _ (capacity : ℕ) where
  run_in_order : {s : Sheet} {spare : ℕ} {x : State} → Lawful s.bytes s.tables → RunsOn s spare capacity x → InOrder capacity x
  run_in_order {spare = spare} lawful (still_funded funded) = running_in_order spare lawful funded
  run_in_order lawful (ended_funded ended) = done_in_order lawful ended.numbers ended.within
  run_in_order lawful given_up = emptied capacity lawful

  pub keeps_order : (s : State) (r : Request) → InOrder capacity s → InOrder capacity (state_after capacity s r)
  keeps_order bare (load bytes) here = loads capacity bare bytes (verdict bytes) refl here
  keeps_order bare (feed bytes) here = here
  keeps_order bare fund here = here
  keeps_order bare one_step here = here
  keeps_order bare (advance n) here = here
  keeps_order bare pull here = here
  keeps_order bare abandon here = here
  keeps_order bare ask_price here = here
  keeps_order bare ask_free here = here
  keeps_order bare ask_held here = here
  keeps_order bare ask_state here = here
  keeps_order (open_with s es) (load bytes) here = loads capacity (open_with s es) bytes (verdict bytes) refl here
  keeps_order (open_with s es) (feed bytes) (open_in_order lawful typed few within) = feeds capacity s lawful (fed bytes) typed few within
  keeps_order (open_with s es) fund (open_in_order lawful typed few within) = funds capacity s lawful es typed few within
  keeps_order (open_with s es) one_step here = here
  keeps_order (open_with s es) (advance n) here = here
  keeps_order (open_with s es) pull here = here
  keeps_order (open_with s es) abandon (open_in_order lawful typed few within) = emptied capacity lawful
  keeps_order (open_with s es) ask_price here = here
  keeps_order (open_with s es) ask_free here = here
  keeps_order (open_with s es) ask_held here = here
  keeps_order (open_with s es) ask_state here = here
  keeps_order (running_with s fs) r (running_in_order spare lawful funded) = run_in_order lawful (calls_keep_what_is_paid s spare capacity fs r lawful funded)
  keeps_order (done_with s v) (load bytes) here = here
  keeps_order (done_with s v) (feed bytes) here = here
  keeps_order (done_with s v) fund here = here
  keeps_order (done_with s v) one_step here = here
  keeps_order (done_with s v) (advance n) here = here
  keeps_order (done_with s v) pull (done_in_order lawful listed within) = pulls capacity s lawful listed within
  keeps_order (done_with s v) abandon (done_in_order lawful listed within) = emptied capacity lawful
  keeps_order (done_with s v) ask_price here = here
  keeps_order (done_with s v) ask_free here = here
  keeps_order (done_with s v) ask_held here = here
  keeps_order (done_with s v) ask_state here = here

  pub keeps_order_behind : (s : State) (rs : List Request) → InOrder capacity s → InOrder capacity (state_behind capacity s rs)
  keeps_order_behind s [] here = here
  keeps_order_behind s (r ∷ rs) here = keeps_order_behind (state_after capacity s r) rs (keeps_order s r here)

live_within : (capacity : ℕ) (s : State) → InOrder capacity s → live_nodes s ≤ capacity
live_within capacity bare here = omega arith
live_within capacity (open_with s es) (open_in_order lawful typed few within) = within
live_within capacity (running_with s fs) (running_in_order spare lawful funded) = funded.within
live_within capacity (done_with s v) (done_in_order lawful listed within) = within

pub a_service_stays_in_order : AServiceStaysInOrder
a_service_stays_in_order = (keeps_order, λ capacity rs. keeps_order_behind capacity bare rs bare_in_order, live_within)
