-- What a whole run leaves, by what each of its calls keeps.
use Rattle.std.proofs.Common.{◌≡◌, ℕ, ◌+◌, ◌-◌, ◌≤◌, leb, List, sym, subst}
use Rattle.rules.specs.Lawful.{Lawful}
use Rattle.rules.proofs.Truth.{impossible}
use Rattle.plain.specs.Values.{Value, potential}
use Rattle.plain.specs.Calls.{Request, fund, accepted}
use Rattle.plain.specs.States.{Sheet, State, bare, open_with, running_with, done_with, free, price, price_of}
use Rattle.plain.specs.Feeding.{are_parameters}
use Rattle.plain.specs.Service.{answer_to, state_after, state_behind}
use Rattle.plain.specs.Funded.{Numbers, result_type, result_remainder, Ended}
use Rattle.plain.specs.Law.{spare_at}
use Rattle.plain.specs.Order.{InOrder, bare_in_order, open_in_order, RunsOn, still_funded, ended_funded, given_up}
use Rattle.plain.specs.Promise.{WhileRunning, no_call, one_call, ARunLeavesWhatWasPromised}
use Rattle.plain.proofs.Funding.{funding_pays, begins}
use Rattle.plain.proofs.Order.{calls_keep_what_is_paid, keeps_order_behind}

-- a run that is on, through calls that are made on it
runs_through : {s : Sheet} {spare capacity : ℕ} {x : State} {rs : List Request} → Lawful s.bytes s.tables → WhileRunning capacity x rs →
    RunsOn s spare capacity x → RunsOn s spare capacity (state_behind capacity x rs)
runs_through lawful no_call on = on
runs_through {s} {spare} {capacity} lawful (one_call {fs = fs} {r = r} more) (still_funded funded) =
    runs_through lawful more (calls_keep_what_is_paid s spare capacity fs r lawful funded)

-- the end is that of the run's own sheet
ended_with : {s t : Sheet} {spare capacity : ℕ} {x : State} {v : Value} → RunsOn s spare capacity x → x ≡ done_with t v → Ended t spare capacity v
ended_with (still_funded funded) e = impossible (cc)
ended_with {s} {t} {spare} {capacity} {v = v} (ended_funded {v = u} ended) e =
    let same : s ≡ t = cc in
    let value : u ≡ v = cc in
    subst (λ y. Ended y spare capacity v) same (subst (λ y. Ended s spare capacity y) value ended)
ended_with given_up e = impossible (cc)

promised : (capacity : ℕ) (x : State) (during : List Request) (s : Sheet) (v : Value) → InOrder capacity x → answer_to capacity x fund ≡ accepted →
    WhileRunning capacity (state_after capacity x fund) during → state_behind capacity (state_after capacity x fund) during ≡ done_with s v →
    Numbers v × (free capacity x - price x + potential (result_type s) v + result_remainder s ≤ free capacity (done_with s v))
promised capacity bare during s v here funds on end = impossible (cc)
promised capacity (open_with t es) during s v (open_in_order lawful typed few within) funds on end =
    let start = begins (are_parameters t es) (leb (price_of t es) (free capacity (open_with t es))) _ _ _ _ funds in
    let funded = funding_pays t es capacity lawful typed within funds in
    let run = runs_through lawful on (subst (λ y. RunsOn t (spare_at capacity t es) capacity y) (sym start) (still_funded funded)) in
    let it = ended_with {t = s} run end in
    (it.numbers, it.leaves)
promised capacity (running_with t fs) during s v here funds on end = impossible (cc)
promised capacity (done_with t u) during s v here funds on end = impossible (cc)

pub a_run_leaves_what_was_promised : ARunLeavesWhatWasPromised
a_run_leaves_what_was_promised capacity before during s v funds on end =
    promised capacity (state_behind capacity bare before) during s v (keeps_order_behind capacity bare before bare_in_order) funds on end
