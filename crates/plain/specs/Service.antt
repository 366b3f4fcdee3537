-- The plain service: what each call answers and the state that follows, given a capacity. Rests on the calls.
use Rattle.std.specs.Prelude.{ℕ, List, [], ◌∷◌}
use Rattle.plain.specs.Calls.{Request, load, feed, fund, one_step, advance, pull, abandon, ask_price, ask_free, ask_held, ask_state, Answer, in_phase, counted}
use Rattle.plain.specs.States.{State, phase, live_nodes, free, price, Served, served}
use Rattle.plain.specs.Feeding.{load_from, feed_from, fund_from}
use Rattle.plain.specs.Running.{step_from, advance_from, pull_from, abandon_from}

abbrev pub serve : ℕ → State → Request → Served
serve capacity s (load bytes) = load_from s bytes
serve capacity s (feed record_bytes) = feed_from capacity s record_bytes
serve capacity s fund = fund_from capacity s
serve capacity s one_step = step_from s
serve capacity s (advance n) = advance_from s n
serve capacity s pull = pull_from s
serve capacity s abandon = abandon_from s
serve capacity s ask_price = served (counted (price s)) s
serve capacity s ask_free = served (counted (free capacity s)) s
serve capacity s ask_held = served (counted (live_nodes s)) s
serve capacity s ask_state = served (in_phase (phase s)) s

-- what a call answers, and the state after it
abbrev pub answer_to : ℕ → State → Request → Answer
answer_to capacity s r = (serve capacity s r).answer

abbrev pub state_after : ℕ → State → Request → State
state_after capacity s r = (serve capacity s r).after

-- the answers to a row of calls, and the state behind them; a service starts Bare
abbrev pub answers_to : ℕ → State → List Request → List Answer
answers_to capacity s [] = []
answers_to capacity s (r ∷ rs) = answer_to capacity s r ∷ answers_to capacity (state_after capacity s r) rs

abbrev pub state_behind : ℕ → State → List Request → State
state_behind capacity s [] = s
state_behind capacity s (r ∷ rs) = state_behind capacity (state_after capacity s r) rs
